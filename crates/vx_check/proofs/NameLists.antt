-- Names of entries and what is known of them in a loop.
use Rattle.std.proofs.Common.{◌≡◌, ℕ, zero, suc, ◌+◌, ◌<◌, Bool, true, false, List, [], ◌∷◌, ◌++◌, length, take, drop, get_or, refl, sym, ap, subst, ◌∙◌, arith, append_assoc}
use Rattle.std.specs.Prelude.{◌||◌, not}
use Rattle.std.specs.Str.{bytes_eq}
use Rattle.std.specs.List.{AllByRecursion}
use Rattle.std.proofs.lemmas.List.{append-nil}
use Rattle.std.proofs.lemmas.List.Folds.{list_any-append}
use Rattle.std.proofs.lemmas.Slice.Eq.{bytes_eq-Decides}
use Rattle.vx_base.specs.Paths.{FileName}
use Rattle.vx_base.specs.declared.inode.DirEntry.{DirEntry}
use Rattle.vx_sound.specs.Facts.{is_legal, is_name_among, AreNamesRight}
use Rattle.vx_check.specs.Directories.{has, AreNamesOf, IsMarked, targets_of}

-- ---- the first of them

pub names_both : (before es fs : List DirEntry) → AreNamesRight before es → AreNamesRight (before ++ es) fs → AreNamesRight before (es ++ fs)
names_both before [] fs p q = subst (λ (l : List DirEntry). AreNamesRight l fs) (append-nil before) q
names_both before (e ∷ es) fs p q = (p.0, p.1, names_both (before ++ e ∷ []) es fs p.2 (subst (λ (l : List DirEntry). AreNamesRight l fs) (sym (append_assoc before (e ∷ []) es)) q))

pub names_back : (before es fs : List DirEntry) → AreNamesRight before (es ++ fs) → AreNamesRight (before ++ es) fs
names_back before [] fs p = subst (λ (l : List DirEntry). AreNamesRight l fs) (sym (append-nil before)) p
names_back before (e ∷ es) fs p = subst (λ (l : List DirEntry). AreNamesRight l fs) (append_assoc before (e ∷ []) es) (names_back (before ++ e ∷ []) es fs p.2)

pub take_split : (es : List DirEntry) (t : ℕ) (d : DirEntry) → t < length es → es ≡ take t es ++ get_or es t d ∷ drop (t + 1) es
take_split [] t d lt = absurd (omega arith)
take_split (e ∷ es) zero d lt = refl
take_split (e ∷ es) (suc t) d lt = let e1 : suc t + 1 ≡ suc (t + 1) = omega arith in let low : t < length es = omega arith in
    ap (λ (l : List DirEntry). e ∷ l) (take_split es t d low) ∙ ap (λ (j : ℕ). e ∷ (take t es ++ get_or es t d ∷ drop j (e ∷ es))) (sym e1)

pub take_more_at : (es : List DirEntry) (t : ℕ) (d : DirEntry) → t < length es → take (t + 1) es ≡ take t es ++ get_or es t d ∷ []
take_more_at [] t d lt = absurd (omega arith)
take_more_at (e ∷ es) zero d lt = refl
take_more_at (e ∷ es) (suc t) d lt = let e1 : suc t + 1 ≡ suc (t + 1) = omega arith in let low : t < length es = omega arith in
    ap (λ (j : ℕ). take j (e ∷ es)) e1 ∙ ap (λ (l : List DirEntry). e ∷ l) (take_more_at es t d low)

pub record IsNamed (old names : List FileName) (es : List DirEntry) (t : ℕ) : Type 0 where
  pub known : (before : List DirEntry) → AreNamesOf old before → AreNamesRight before (take t es) × AreNamesOf names (before ++ take t es)

pub named_none : (old : List FileName) (es : List DirEntry) → IsNamed old old es 0
named_none old es = record { known = λ before h. (tt, subst (AreNamesOf old) (sym (append-nil before)) h) }

same_bytes : (x y : FileName) → bytes_eq x y ≡ bytes_eq y x
same_bytes x y = elim (bytes_eq x y) as (λ (b : Bool). bytes_eq x y ≡ b → b ≡ bytes_eq y x) [
  | true ↦ λ e. let is : x ≡ y = (bytes_eq-Decides x y).0 e in sym (subst (λ (z : FileName). bytes_eq z x ≡ true) is (subst (λ (z : FileName). bytes_eq x z ≡ true) (sym is) e))
  | false ↦ λ e. elim (bytes_eq y x) as (λ (b : Bool). bytes_eq y x ≡ b → false ≡ b) [
    | true ↦ λ f. let is : y ≡ x = (bytes_eq-Decides y x).0 f in sym e ∙ subst (λ (z : FileName). bytes_eq z y ≡ true) is (subst (λ (z : FileName). bytes_eq y z ≡ true) (sym is) f)
    | false ↦ λ f. refl
  ] refl
] refl

flip : (a b : Bool) → (a || b) ≡ (b || (a || false))
flip true true = refl
flip true false = refl
flip false true = refl
flip false false = refl

names_more : (old names : List FileName) (before : List DirEntry) (e : DirEntry) → AreNamesOf old before → ((q : FileName) → has names q ≡ (bytes_eq e.name q || has old q)) → AreNamesOf names (before ++ e ∷ [])
names_more old names before e h more q =
    more q ∙ ap (λ (b : Bool). bytes_eq e.name q || b) (h q) ∙ ap (λ (b : Bool). b || is_name_among q before) (same_bytes e.name q)
    ∙ flip (bytes_eq q e.name) (is_name_among q before) ∙ sym (list_any-append (λ (x : DirEntry). bytes_eq q x.name) before (e ∷ []))

not_true : (b : Bool) → true ≡ not b → b ≡ false
not_true true e = absurd (cc)
not_true false e = refl

not_false : (b : Bool) → false ≡ not b → b ≡ true
not_false true e = refl
not_false false e = absurd (cc)

-- one name more
pub named_more : (old names new : List FileName) (es : List DirEntry) (t : ℕ) (e d : DirEntry) → t < length es → get_or es t d ≡ e → is_legal e.name ≡ true → true ≡ not (has names e.name)
    → ((q : FileName) → has new q ≡ (bytes_eq e.name q || has names q)) → IsNamed old names es t → IsNamed old new es (t + 1)
named_more old names new es t e d lt is legal fresh more c = record {
  known = λ before h.
      let known = c.known before h in
      let l = before ++ take t es in
      let longer : take t es ++ e ∷ [] ≡ take (t + 1) es = ap (λ (x : DirEntry). take t es ++ x ∷ []) (sym is) ∙ sym (take_more_at es t d lt) in
      let joined : l ++ e ∷ [] ≡ before ++ take (t + 1) es = append_assoc before (take t es) (e ∷ []) ∙ ap (λ (x : List DirEntry). before ++ x) longer in (
        subst (AreNamesRight before) longer (names_both before (take t es) (e ∷ []) known.0 (legal, sym (known.1 e.name) ∙ not_true (has names e.name) fresh, tt)),
        subst (AreNamesOf new) joined (names_more names new l e known.1 more),
      );
}

-- a name that is not legal, or not new
pub named_wrong : (old names : List FileName) (es : List DirEntry) (t : ℕ) (e d : DirEntry) → t < length es → get_or es t d ≡ e → (is_legal e.name ≡ true → false ≡ not (has names e.name))
    → IsNamed old names es t → (before : List DirEntry) → AreNamesOf old before → AreNamesRight before es → ⊥
named_wrong old names es t e d lt is wrong c before h all =
    let split = take_split es t d lt ∙ ap (λ (x : DirEntry). take t es ++ x ∷ drop (t + 1) es) is in
    let rest = names_back before (take t es) (e ∷ drop (t + 1) es) (subst (AreNamesRight before) split all) in
    let old_name : has names e.name ≡ true = not_false (has names e.name) (wrong rest.0) in
    let bad : true ≡ false = sym old_name ∙ (c.known before h).1 e.name ∙ rest.1 in
    absurd (cc)

pub named_all : (old names : List FileName) (es : List DirEntry) (t : ℕ) → take t es ≡ es → IsNamed old names es t → (before : List DirEntry) → AreNamesOf old before → AreNamesRight before es × AreNamesOf names (before ++ es)
named_all old names es t end c before h = subst (λ (x : List DirEntry). AreNamesRight before x × AreNamesOf names (before ++ x)) end (c.known before h)

-- ---- targets

pub marked_more : (used : List Bool) (es : List DirEntry) (t : ℕ) (d : DirEntry) → t < length es → AllByRecursion (IsMarked used) (take t es) → IsMarked used (get_or es t d) → AllByRecursion (IsMarked used) (take (t + 1) es)
marked_more used [] t d lt all h = absurd (omega arith)
marked_more used (e ∷ es) zero d lt all h = (h, tt)
marked_more used (e ∷ es) (suc t) d lt all h =
    let e1 : suc (t + 1) ≡ suc t + 1 = omega arith in let low : t < length es = omega arith in
    subst (λ (j : ℕ). AllByRecursion (IsMarked used) (take j (e ∷ es))) e1 (all.0, marked_more used es t d low all.1 h)

pub marked_at : (used : List Bool) (es : List DirEntry) (t : ℕ) (d : DirEntry) → t < length es → AllByRecursion (IsMarked used) es → IsMarked used (get_or es t d)
marked_at used [] t d lt all = absurd (omega arith)
marked_at used (e ∷ es) zero d lt all = all.0
marked_at used (e ∷ es) (suc t) d lt all = let low : t < length es = omega arith in marked_at used es t d low all.1

pub targets_more : (xs : List ℕ) (es : List DirEntry) (t : ℕ) (e d : DirEntry) → t < length es → get_or es t d ≡ e → (ts : List ℕ) → ts ≡ xs ++ targets_of (take t es) → ts ++ e.ino ∷ [] ≡ xs ++ targets_of (take (t + 1) es)
targets_more xs es t e d lt is ts h =
    ap (λ (l : List ℕ). l ++ e.ino ∷ []) h ∙ append_assoc xs (targets_of (take t es)) (e.ino ∷ [])
    ∙ ap (λ (l : List ℕ). xs ++ l) (sym (both (take t es) e) ∙ ap targets_of (ap (λ (x : DirEntry). take t es ++ x ∷ []) (sym is) ∙ sym (take_more_at es t d lt)))
  where
    both : (fs : List DirEntry) (e : DirEntry) → targets_of (fs ++ e ∷ []) ≡ targets_of fs ++ e.ino ∷ []
    both [] e = refl
    both (f ∷ fs) e = ap (λ (l : List ℕ). f.ino ∷ l) (both fs e)
