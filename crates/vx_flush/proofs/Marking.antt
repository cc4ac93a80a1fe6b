-- The marks of pages that have numbers.
use Rattle.std.proofs.Common.{inl, inr, ◌≡◌, ◌≢◌, ◌+◌, ◌<◌, ◌≤◌, ℕ, suc, Bool, true, false, ◌&&◌, ◌==◌, cond, nat_eq, List, [], ◌∷◌, length, map, Option, Some, None, refl, sym, ap, ◌∙◌, subst, arith}
use Rattle.std.specs.Prelude.{◌⊎◌, nat_lt, nat_le, is_some, IfSome, option_map}
use Rattle.std.specs.List.{AllByRecursion, list_any}
use Rattle.vx_flush.specs.Entries.{Entry, Numbers, is_of, kept_at, precedes, IsRising, Keeps, Drops, IsUpTo, zeroed}
use Rattle.vx_flush.specs.Marks.{Mark, Owed, mark_at, mark_of, marks_of, is_stable, passed, HasRoom}
use Rattle.vx_flush.proofs.Rising.{any_found, any_missed}

module _ {V : Type 0} (f : ℕ → V) where
  abbrev changed : Numbers → List (Entry V)
  changed es = map (λ e. (e.0, f e.1)) es

  pub kept_changed : (es : Numbers) (i q : ℕ) → kept_at i q (changed es) ≡ option_map f (kept_at i q es)
  kept_changed [] i q = refl
  kept_changed (e ∷ es) i q = elim (is_of i q e) as (λ b. cond b (Some (f e.1)) (kept_at i q (changed es)) ≡ option_map f (cond b (Some e.1) (kept_at i q es))) [
    | true ↦ refl
    | false ↦ kept_changed es i q
  ]

  all_changed : (e : Entry ℕ) (es : Numbers) → AllByRecursion (λ d. precedes d.0.0 d.0.1 e ≡ true) es → AllByRecursion (λ d. precedes d.0.0 d.0.1 (e.0, f e.1) ≡ true) (changed es)
  all_changed e [] h = tt
  all_changed e (d ∷ es) h = (h.0, all_changed e es h.1)

  pub rising_changed : (es : Numbers) → IsRising es → IsRising (changed es)
  rising_changed [] h = tt
  rising_changed (e ∷ es) h = (all_changed e es h.0, rising_changed es h.1)

  pub length_changed : (es : Numbers) → length (changed es) ≡ length es
  length_changed [] = refl
  length_changed (e ∷ es) = ap suc (length_changed es)

  pub keeps_changed : (ino page : ℕ) (k : Option ℕ) (old new : Numbers) → Keeps ino page k old new → Keeps ino page (option_map f k) (changed old) (changed new)
  keeps_changed ino page k old new h i q = (elim ((ino == i) && (page == q)) as (λ b. kept_at i q new ≡ cond b k (kept_at i q old) → kept_at i q (changed new) ≡ cond b (option_map f k) (kept_at i q (changed old))) [
    | true ↦ λ e. kept_changed new i q ∙ ap (option_map f) e
    | false ↦ λ e. kept_changed new i q ∙ ap (option_map f) e ∙ sym (kept_changed old i q)
  ]) (h i q)

  pub drops_changed : (ino page : ℕ) (old new : Numbers) → Drops ino page old new → Drops ino page (changed old) (changed new)
  drops_changed ino page old new h i q = (elim ((ino == i) && nat_le page q) as (λ b. kept_at i q new ≡ cond b None (kept_at i q old) → kept_at i q (changed new) ≡ cond b None (kept_at i q (changed old))) [
    | true ↦ λ e. kept_changed new i q ∙ ap (option_map f) e
    | false ↦ λ e. kept_changed new i q ∙ ap (option_map f) e ∙ sym (kept_changed old i q)
  ]) (h i q)

  pub same_some : (es : Numbers) (i q : ℕ) → is_some (kept_at i q (changed es)) ≡ is_some (kept_at i q es)
  same_some es i q = (elim (kept_at i q es) as (λ o. kept_at i q (changed es) ≡ option_map f o → is_some (kept_at i q (changed es)) ≡ is_some o) [
    | None ↦ λ e. ap (λ (o : Option V). is_some o) e
    | Some n ↦ λ e. ap (λ (o : Option V). is_some o) e
  ]) (kept_changed es i q)

-- ---- at most so many barriers

pub upto_keeps : (b ino page : ℕ) (k : Option ℕ) (old new : Numbers) → Keeps ino page k old new → IfSome k (λ n. n ≤ b) → IsUpTo b old → IsUpTo b new
upto_keeps b ino page k old new h here all i q = (elim ((ino == i) && (page == q)) as (λ c. kept_at i q new ≡ cond c k (kept_at i q old) → IfSome (kept_at i q new) (λ n. n ≤ b)) [
  | true ↦ λ e. subst (λ (o : Option ℕ). IfSome o (λ n. n ≤ b)) (sym e) here
  | false ↦ λ e. subst (λ (o : Option ℕ). IfSome o (λ n. n ≤ b)) (sym e) (all i q)
]) (h i q)

pub upto_drops : (b ino page : ℕ) (old new : Numbers) → Drops ino page old new → IsUpTo b old → IsUpTo b new
upto_drops b ino page old new h all i q = (elim ((ino == i) && nat_le page q) as (λ c. kept_at i q new ≡ cond c None (kept_at i q old) → IfSome (kept_at i q new) (λ n. n ≤ b)) [
  | true ↦ λ e. subst (λ (o : Option ℕ). IfSome o (λ n. n ≤ b)) (sym e) tt
  | false ↦ λ e. subst (λ (o : Option ℕ). IfSome o (λ n. n ≤ b)) (sym e) (all i q)
]) (h i q)

at_most_more : (b : ℕ) (o : Option ℕ) → IfSome o (λ n. n ≤ b) → IfSome o (λ n. n ≤ b + 1)
at_most_more b None h = tt
at_most_more b (Some n) h = omega (arith, h)

pub upto_more : (b : ℕ) (es : Numbers) → IsUpTo b es → IsUpTo (b + 1) es
upto_more b es all i q = at_most_more b (kept_at i q es) (all i q)

pub upto_zeroed : (es : Numbers) → IsUpTo 1 (zeroed es)
upto_zeroed es i q = subst (λ (o : Option ℕ). IfSome o (λ n. n ≤ 1)) (sym (kept_changed (λ (n : ℕ). 0) es i q)) (low (kept_at i q es))
  where
    low : (o : Option ℕ) → IfSome (option_map (λ (n : ℕ). 0) o) (λ n. n ≤ 1)
    low None = tt
    low (Some n) = omega arith

-- ---- marks

pub owed_now : (b : ℕ) → mark_of b b ≡ Owed
owed_now b = let at : nat_lt b b ≡ false = grind arith in rw at refl

mark_passed : (b : ℕ) (o : Option ℕ) → IfSome o (λ n. n ≤ b) → option_map (mark_of (b + 1)) o ≡ option_map passed (option_map (mark_of b) o)
mark_passed b None h = refl
mark_passed b (Some n) h = let below : nat_lt n (b + 1) ≡ true = grind (arith, h) in rw below refl

pub marks_passed : (b : ℕ) (es : Numbers) → IsUpTo b es → (i q : ℕ) → mark_at i q (marks_of (b + 1) es) ≡ option_map passed (mark_at i q (marks_of b es))
marks_passed b es all i q = kept_changed (mark_of (b + 1)) es i q ∙ mark_passed b (kept_at i q es) (all i q) ∙ ap (option_map passed) (sym (kept_changed (mark_of b) es i q))

mark_renewed : (b : ℕ) (o : Option ℕ) → option_map (mark_of 1) (option_map (λ (n : ℕ). 0) o) ≡ option_map passed (option_map (mark_of b) o)
mark_renewed b None = refl
mark_renewed b (Some n) = refl

pub marks_renewed : (b : ℕ) (es : Numbers) → (i q : ℕ) → mark_at i q (marks_of 1 (zeroed es)) ≡ option_map passed (mark_at i q (marks_of b es))
marks_renewed b es i q = kept_changed (mark_of 1) (zeroed es) i q ∙ ap (option_map (mark_of 1)) (kept_changed (λ (n : ℕ). 0) es i q) ∙ mark_renewed b (kept_at i q es) ∙ ap (option_map passed) (sym (kept_changed (mark_of b) es i q))

stable_mark : (b : ℕ) (o : Option ℕ) (n : ℕ) → o ≡ Some n → nat_lt n b ≡ is_stable (option_map (mark_of b) o)
stable_mark b None n is = absurd (let differs : None ≡ Some n = is in cc)
stable_mark b (Some m) n is = grind (arith, is)

pub stable_found : (b : ℕ) (es : Numbers) (i q n : ℕ) → kept_at i q es ≡ Some n → nat_lt n b ≡ is_stable (mark_at i q (marks_of b es))
stable_found b es i q n is = stable_mark b (kept_at i q es) n is ∙ ap is_stable (sym (kept_changed (mark_of b) es i q))

pub stable_missed : (b : ℕ) (es : Numbers) (i q : ℕ) → kept_at i q es ≡ None → false ≡ is_stable (mark_at i q (marks_of b es))
stable_missed b es i q none = ap (λ (o : Option ℕ). is_stable (option_map (mark_of b) o)) (sym none) ∙ ap is_stable (sym (kept_changed (mark_of b) es i q))

pub owed_found : (b : ℕ) (es : Numbers) → IsRising es → list_any (λ (e : Entry ℕ). nat_eq e.1 b) es ≡ true → (i : ℕ) × (q : ℕ) × (mark_at i q (marks_of b es) ≡ Some Owed)
owed_found b es rising is = let found = any_found b es rising is in
    (found.0, found.1, kept_changed (mark_of b) es found.0 found.1 ∙ ap (option_map (mark_of b)) found.2 ∙ ap (λ (m : Mark). Some m) (owed_now b))

owed_number : (b : ℕ) (o : Option ℕ) → IfSome o (λ n. n ≤ b) → option_map (mark_of b) o ≡ Some Owed → o ≡ Some b
owed_number b None h is = absurd (let differs : None ≡ Some Owed = is in cc)
owed_number b (Some n) h is = grind (arith, h, is)

pub owed_missed : (b : ℕ) (es : Numbers) → IsUpTo b es → list_any (λ (e : Entry ℕ). nat_eq e.1 b) es ≡ false → (i q : ℕ) → mark_at i q (marks_of b es) ≢ Some Owed
owed_missed b es all none i q is = any_missed b es none i q (owed_number b (kept_at i q es) (all i q) (sym (kept_changed (mark_of b) es i q) ∙ is))

pub owed_kept : (b ino page : ℕ) (old new : Numbers) → Keeps ino page (Some b) old new → Keeps ino page (Some Owed) (marks_of b old) (marks_of b new)
owed_kept b ino page old new h = subst (λ (m : Mark). Keeps ino page (Some m) (marks_of b old) (marks_of b new)) (owed_now b) (keeps_changed (mark_of b) ino page (Some b) old new h)

-- ---- how many pages have marks

pub room_for : (b : ℕ) (es : Numbers) (ino page : ℕ) → HasRoom (marks_of b es) ino page → (is_some (kept_at ino page es) ≡ true) ⊎ (length es < 262144)
room_for b es ino page h = elim h [
  | inl there ↦ inl (sym (same_some (mark_of b) es ino page) ∙ there)
  | inr few ↦ inr (subst (λ (n : ℕ). n < 262144) (length_changed (mark_of b) es) few)
]

sums : (n m there gone : ℕ) (x y : Bool) → n ≡ m → x ≡ y → n + cond x there gone ≡ m + cond y there gone
sums n m there gone x y e f = ap (λ (k : ℕ). k + cond x there gone) e ∙ ap (λ (b : Bool). m + cond b there gone) f

pub one_more : (b : ℕ) (old new : Numbers) (ino page : ℕ) → length new ≡ length old + cond (is_some (kept_at ino page old)) 0 1 → length (marks_of b new) ≡ length (marks_of b old) + cond (is_some (mark_at ino page (marks_of b old))) 0 1
one_more b old new ino page h = length_changed (mark_of b) new ∙ h
    ∙ sums (length old) (length (marks_of b old)) 0 1 (is_some (kept_at ino page old)) (is_some (mark_at ino page (marks_of b old))) (sym (length_changed (mark_of b) old)) (sym (same_some (mark_of b) old ino page))

pub one_fewer : (b : ℕ) (old new : Numbers) (ino page : ℕ) → length new + cond (is_some (kept_at ino page old)) 1 0 ≡ length old → length (marks_of b new) + cond (is_some (mark_at ino page (marks_of b old))) 1 0 ≡ length (marks_of b old)
one_fewer b old new ino page h =
    sums (length (marks_of b new)) (length new) 1 0 (is_some (mark_at ino page (marks_of b old))) (is_some (kept_at ino page old)) (length_changed (mark_of b) new) (same_some (mark_of b) old ino page)
    ∙ h ∙ sym (length_changed (mark_of b) old)
