-- The components of a path are legal names.
use Rattle.std.proofs.Common.{◌≡◌, ℕ, Bool, true, false, cond, not, List, [], ◌∷◌, length, Some, None, Ok, refl, ap, subst}
use Rattle.std.specs.Prelude.{◌==◌, nat_eq, nat_le}
use Rattle.std.specs.List.{AllByRecursion, list_any, list_all, slice_split, onto_first}
use Rattle.std.proofs.lemmas.Bool.{and_parts, and_from, or_from}
use Rattle.vx_base.specs.Paths.{FileName, is_name, components_after, components_of, split}
use Rattle.vx_base.specs.declared.refusal.Refusal.TheVariants as no
use Rattle.vx_sound.specs.Facts.{is_legal}
use Rattle.vx_model.specs.Paths.{PathEnd, path_end, path_end_from}
use Rattle.vx_model.specs.Walks.{names_of}
use Rattle.vx_model.proofs.Chains.{need_ok}

abbrev AreApart : (ℕ → Bool) → List (List ℕ) → Type 0
AreApart p parts = AllByRecursion (λ part. list_any p part ≡ false) parts

apart_by : (p : ℕ → Bool) (x : ℕ) (parts : List (List ℕ)) (t : Bool) → p x ≡ t → AreApart p parts → AreApart p (cond t ([] ∷ parts) (onto_first x parts))
apart_by p x parts true is h = (refl, h)
apart_by p x [] false is h = (or_from (p x) false is refl, tt)
apart_by p x (part ∷ parts) false is h = (or_from (p x) (list_any p part) is h.0, h.1)

parts_apart : (p : ℕ → Bool) (xs : List ℕ) → AreApart p (slice_split p xs)
parts_apart p [] = (refl, tt)
parts_apart p (x ∷ xs) = apart_by p x (slice_split p xs) (p x) refl (parts_apart p xs)

abbrev pub AreLegal : List FileName → Type 0
AreLegal names = AllByRecursion (λ (x : FileName). is_legal x ≡ true) names

legal_by : (names : List FileName) → list_all is_name names ≡ true → AreApart (λ b. nat_eq b 47) names → AreLegal names
legal_by [] h apart = tt
legal_by (x ∷ xs) h apart =
    let two = and_parts (is_name x) (list_all is_name xs) h in
    (and_from (is_name x) (not (list_any (λ b. b == 47) x)) two.0 (ap not apart.0), legal_by xs two.1 apart.1)

if_legal : (names out : List FileName) (t : Bool) → list_all is_name names ≡ t → AreApart (λ b. nat_eq b 47) names → cond t (Some names) None ≡ Some out → AreLegal out
if_legal names out true is apart h = let e : names ≡ out = cc in subst AreLegal e (legal_by names is apart)
if_legal names out false is apart h = absurd cc

after_legal : (rest : List ℕ) (out : List FileName) → components_after rest ≡ Some out → AreLegal out
after_legal [] out h = let e : ◌≡◌ {A = List FileName} [] out = cc in subst AreLegal e tt
after_legal (b ∷ rest) out h = if_legal (slice_split (λ c. nat_eq c 47) (b ∷ rest)) out (list_all is_name (slice_split (λ c. nat_eq c 47) (b ∷ rest))) refl (parts_apart (λ c. nat_eq c 47) (b ∷ rest)) h

slash_legal : (t : Bool) (rest : List ℕ) (out : List FileName) → cond t (components_after rest) None ≡ Some out → AreLegal out
slash_legal true rest out h = after_legal rest out h
slash_legal false rest out h = absurd cc

of_legal : (path : List ℕ) (out : List FileName) → components_of path ≡ Some out → AreLegal out
of_legal [] out h = absurd cc
of_legal (b ∷ rest) out h = slash_legal (nat_eq b 47) rest out h

short_legal : (t : Bool) (path : List ℕ) (out : List FileName) → cond t (components_of path) None ≡ Some out → AreLegal out
short_legal true path out h = of_legal path out h
short_legal false path out h = absurd cc

pub names_legal : (path : List ℕ) (names : List FileName) → names_of path ≡ Ok names → AreLegal names
names_legal path names h = short_legal (nat_le (length path) 1023) path names (need_ok (split path) no.BadName names h)

last_legal : (name : FileName) (rest : List FileName) → AreLegal (name ∷ rest) → is_legal (path_end_from name rest).name ≡ true
last_legal name [] h = h.0
last_legal name (next ∷ rest) h = last_legal next rest h.1

pub end_legal : (names : List FileName) (end : PathEnd) → AreLegal names → path_end names ≡ Some end → is_legal end.name ≡ true
end_legal [] end legal h = absurd cc
end_legal (name ∷ rest) end legal h = let e : path_end_from name rest ≡ end = cc in subst (λ (x : PathEnd). is_legal x.name ≡ true) e (last_legal name rest legal)
