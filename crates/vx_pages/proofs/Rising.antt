-- Entries that rise in inode and page.
use Rattle.std.proofs.Common.{◌≡◌, ◌≢◌, ◌<◌, ◌≤◌, ℕ, zero, suc, Bool, true, false, ◌&&◌, ◌==◌, cond, List, [], ◌∷◌, length, get_or, Option, Some, None, refl, subst, arith}
use Rattle.std.specs.Prelude.{insert, remove, nat_eq, is_some}
use Rattle.std.specs.List.{AllByRecursion}
use Rattle.std.specs.List.Sorted.{IsPartitionedBy, IsPartitionPoint}
use Rattle.vx_pages.specs.Indexes.{Tie, is_of, slot_at, precedes, IsRising, IsPlace, Enters, Leaves, LacksFrom}

all_at : (P : Tie → Type 0) (es : List Tie) (k : ℕ) (d : Tie) → AllByRecursion P es → k < length es → P (get_or es k d)
all_at P [] k d h lt = absurd (omega (arith, lt))
all_at P (e ∷ es) zero d h lt = h.0
all_at P (e ∷ es) (suc k) d h lt = all_at P es k d h.1 (omega (arith, lt))

all_within : (P : Tie → Type 0) (es : List Tie) (d : Tie) → ((k : ℕ) → k < length es → P (get_or es k d)) → AllByRecursion P es
all_within P [] d h = tt
all_within P (e ∷ es) d h = (h 0 (omega arith), all_within P es d (λ k lt. h (suc k) (omega (arith, lt))))

module _ (ino page : ℕ) where
  before_both : (e d : Tie) → precedes d.0.0 d.0.1 e ≡ true → precedes ino page d ≡ true → precedes ino page e ≡ true
  before_both e d below h = grind (arith, below, h)

  pub parted : (es : List Tie) → IsRising es → IsPartitionedBy (precedes ino page) es
  parted [] h i j d le lt is = absurd (omega (arith, lt))
  parted (e ∷ es) h zero zero d le lt is = is
  parted (e ∷ es) h zero (suc j) d le lt is = before_both e (get_or es j d) (all_at (λ x. precedes x.0.0 x.0.1 e ≡ true) es j d h.0 (omega (arith, lt))) is
  parted (e ∷ es) h (suc i) zero d le lt is = absurd (omega (arith, le))
  parted (e ∷ es) h (suc i) (suc j) d le lt is = parted es h.1 i j d (omega (arith, le)) (omega (arith, lt)) is

  pub place_found : (es : List Tie) (at : ℕ) → at ≤ length es → IsPartitionPoint (λ e. precedes ino page e ≡ true) (λ e. precedes ino page e ≡ false) es at → IsPlace ino page es at
  place_found es zero le p = all_within (λ e. precedes ino page e ≡ false) es ((0, 0), 0) (λ k lt. p.1 k ((0, 0), 0) (omega arith) lt)
  place_found [] (suc at) le p = tt
  place_found (e ∷ es) (suc at) le p = (
    p.0 0 ((0, 0), 0) (omega arith) (omega arith),
    place_found es at (omega (arith, le)) (λ k d a b. p.0 (suc k) d (omega arith) (omega (arith, b)), λ k d a b. p.1 (suc k) d (omega (arith, a)) (omega (arith, b))),
  )

  -- past an entry that doesn't stand before the page's, the page is not
  none_after : (e : Tie) (es : List Tie) → precedes ino page e ≡ false → AllByRecursion (λ d. precedes d.0.0 d.0.1 e ≡ true) es → slot_at ino page es ≡ None
  none_after e [] not_before h = refl
  none_after e (d ∷ es) not_before h = grind (arith, not_before, h.0, none_after e es not_before h.1)

  pub at_place : (es : List Tie) (at : ℕ) (d : Tie) → IsRising es → IsPlace ino page es at → at < length es → is_of ino page (get_or es at d) ≡ true → slot_at ino page es ≡ Some (get_or es at d).1
  at_place [] at d h p lt is = absurd (omega (arith, lt))
  at_place (e ∷ es) zero d h p lt is = grind (arith, is)
  at_place (e ∷ es) (suc at) d h p lt is = grind (arith, p.0, at_place es at d h.1 p.1 (omega (arith, lt)) is)

  pub not_at_place : (es : List Tie) (at : ℕ) (d : Tie) → IsRising es → IsPlace ino page es at → (at < length es → is_of ino page (get_or es at d) ≡ false) → slot_at ino page es ≡ None
  not_at_place [] at d h p other = refl
  not_at_place (e ∷ es) zero d h p other = grind (arith, other (omega arith), none_after e es p.0 h.0)
  not_at_place (e ∷ es) (suc at) d h p other = grind (arith, p.0, not_at_place es at d h.1 p.1 (λ lt. other (omega (arith, lt))))

  -- ---- an entry more

  all_insert : (P : Tie → Type 0) (es : List Tie) (at : ℕ) (x : Tie) → P x → AllByRecursion P es → AllByRecursion P (insert es at x)
  all_insert P [] zero x here h = (here, tt)
  all_insert P [] (suc at) x here h = (here, tt)
  all_insert P (e ∷ es) zero x here h = (here, h)
  all_insert P (e ∷ es) (suc at) x here h = (h.0, all_insert P es at x here h.1)

  all_after : (slot : ℕ) (es : List Tie) → AllByRecursion (λ e. precedes ino page e ≡ false) es → slot_at ino page es ≡ None → AllByRecursion (λ d. precedes d.0.0 d.0.1 ((ino, page), slot) ≡ true) es
  all_after slot [] h none = tt
  all_after slot (e ∷ es) h none = (grind (arith, h.0, none), all_after slot es h.1 (grind (arith, none)))

  pub rising_insert : (slot : ℕ) (es : List Tie) (at : ℕ) → IsRising es → IsPlace ino page es at → slot_at ino page es ≡ None → IsRising (insert es at ((ino, page), slot))
  rising_insert slot [] zero h p none = (tt, tt)
  rising_insert slot [] (suc at) h p none = (tt, tt)
  rising_insert slot (e ∷ es) zero h p none = (all_after slot (e ∷ es) p none, h)
  rising_insert slot (e ∷ es) (suc at) h p none = (
    all_insert (λ d. precedes d.0.0 d.0.1 e ≡ true) es at ((ino, page), slot) p.0 h.0,
    rising_insert slot es at h.1 p.1 (grind (arith, none)),
  )

  pub enters : (slot : ℕ) (es : List Tie) (at : ℕ) → slot_at ino page es ≡ None → Enters ino page slot es (insert es at ((ino, page), slot))
  enters slot [] zero none i q = refl
  enters slot [] (suc at) none i q = refl
  enters slot (e ∷ es) zero none i q = refl
  enters slot (e ∷ es) (suc at) none i q = grind (arith, none, enters slot es at (grind (arith, none)) i q)

  -- ---- an entry less

  all_remove : (P : Tie → Type 0) (es : List Tie) (at : ℕ) → AllByRecursion P es → AllByRecursion P (remove es at)
  all_remove P [] zero h = tt
  all_remove P [] (suc at) h = tt
  all_remove P (e ∷ es) zero h = h.1
  all_remove P (e ∷ es) (suc at) h = (h.0, all_remove P es at h.1)

  pub rising_remove : (es : List Tie) (at : ℕ) → IsRising es → IsRising (remove es at)
  rising_remove [] zero h = tt
  rising_remove [] (suc at) h = tt
  rising_remove (e ∷ es) zero h = h.1
  rising_remove (e ∷ es) (suc at) h = (all_remove (λ d. precedes d.0.0 d.0.1 e ≡ true) es at h.0, rising_remove es at h.1)

  gone : (es : List Tie) (i q : ℕ) → ((ino == i) && (page == q)) ≡ true → slot_at ino page es ≡ None → slot_at i q es ≡ None
  gone es i q same none =
      let a : ino ≡ i = grind (arith, same) in let b : page ≡ q = grind (arith, same) in
      subst (λ x. slot_at x q es ≡ None) a (subst (λ x. slot_at ino x es ≡ None) b none)

  skipped : (e : Tie) (es : List Tie) (i q : ℕ) → is_of ino page e ≡ true → ((ino == i) && (page == q)) ≡ false → slot_at i q es ≡ slot_at i q (e ∷ es)
  skipped e es i q is other = let apart : is_of i q e ≡ false = grind (arith, is, other) in rw apart refl

  passed : (e : Tie) (i q : ℕ) (x y : Option ℕ) → precedes ino page e ≡ true → x ≡ cond ((ino == i) && (page == q)) None y → cond (is_of i q e) (Some e.1) x ≡ cond ((ino == i) && (page == q)) None (cond (is_of i q e) (Some e.1) y)
  passed e i q x y before h = (elim ((ino == i) && (page == q)) as (λ b. ((ino == i) && (page == q)) ≡ b → x ≡ cond b None y → cond (is_of i q e) (Some e.1) x ≡ cond b None (cond (is_of i q e) (Some e.1) y)) [
    | true ↦ λ same g. let apart : is_of i q e ≡ false = grind (arith, same, before) in rw (apart, g) refl
    | false ↦ λ other g. rw g refl
  ]) refl h

  pub leaves : (es : List Tie) (at : ℕ) (d : Tie) → IsRising es → IsPlace ino page es at → at < length es → is_of ino page (get_or es at d) ≡ true → Leaves ino page es (remove es at)
  leaves [] at d h p lt is i q = absurd (omega (arith, lt))
  leaves (e ∷ es) zero d h p lt is i q = (elim ((ino == i) && (page == q)) as (λ b. ((ino == i) && (page == q)) ≡ b → slot_at i q es ≡ cond b None (slot_at i q (e ∷ es))) [
    | true ↦ λ same. gone es i q same (none_after e es p.0 h.0)
    | false ↦ λ other. skipped e es i q is other
  ]) refl
  leaves (e ∷ es) (suc at) d h p lt is i q = passed e i q (slot_at i q (remove es at)) (slot_at i q es) p.0 (leaves es at d h.1 p.1 (omega (arith, lt)) is i q)

  pub leaves_none : (es : List Tie) → slot_at ino page es ≡ None → Leaves ino page es es
  leaves_none es none i q = (elim ((ino == i) && (page == q)) as (λ b. ((ino == i) && (page == q)) ≡ b → slot_at i q es ≡ cond b None (slot_at i q es)) [
    | true ↦ λ same. grind (arith, same, none)
    | false ↦ λ other. refl
  ]) refl

  -- ---- the first from a page on

  pub at_first : (es : List Tie) (at : ℕ) (d : Tie) → IsPlace ino page es at → at < length es → (get_or es at d).0.0 ≡ ino → (page ≤ (get_or es at d).0.1) × (is_some (slot_at ino (get_or es at d).0.1 es) ≡ true)
  at_first [] at d p lt is = absurd (omega (arith, lt))
  at_first (e ∷ es) zero d p lt is = (grind (arith, p.0, is), grind (arith, is))
  at_first (e ∷ es) (suc at) d p lt is = let rest = at_first es at d p.1 (omega (arith, lt)) is in (rest.0, more e (slot_at ino (get_or es at d).0.1 es) (is_of ino (get_or es at d).0.1 e) rest.1)
    where
      more : (e : Tie) (o : Option ℕ) (b : Bool) → is_some o ≡ true → is_some (cond b (Some e.1) o) ≡ true
      more e o true h = refl
      more e o false h = h

  lacks_after : (e : Tie) (es : List Tie) (q : ℕ) → precedes ino page e ≡ false → e.0.0 ≢ ino → page ≤ q → AllByRecursion (λ d. precedes d.0.0 d.0.1 e ≡ true) es → slot_at ino q es ≡ None
  lacks_after e [] q after other le h = refl
  lacks_after e (d ∷ es) q after other le h = grind (arith, after, other, le, h.0, lacks_after e es q after other le h.1)

  pub lacks_from : (es : List Tie) (at : ℕ) (d : Tie) → IsRising es → IsPlace ino page es at → (at < length es → (get_or es at d).0.0 ≢ ino) → LacksFrom ino page es
  lacks_from [] at d h p other q le = refl
  lacks_from (e ∷ es) zero d h p other q le = let apart = other (omega arith) in grind (arith, apart, lacks_after e es q p.0 apart le h.0)
  lacks_from (e ∷ es) (suc at) d h p other q le = grind (arith, p.0, le, lacks_from es at d h.1 p.1 (λ lt. other (omega (arith, lt))) q le)

pub same_number : (n m : ℕ) → nat_eq n m ≡ true → n ≡ m
same_number n m is = grind (arith, is)

pub other_number : (n m : ℕ) → nat_eq n m ≡ false → n ≢ m
other_number n m is same = grind (arith, is, same)

pub same_entry : (es : List Tie) (at : ℕ) (d x : Tie) → at < length es → get_or es at d ≡ get_or es at x
same_entry [] at d x lt = absurd (omega (arith, lt))
same_entry (e ∷ es) zero d x lt = refl
same_entry (e ∷ es) (suc at) d x lt = same_entry es at d x (omega (arith, lt))
