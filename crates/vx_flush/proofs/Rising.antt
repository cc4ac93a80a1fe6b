-- Entries that rise in inode and page.
use Rattle.std.proofs.Common.{◌≡◌, ◌≢◌, ◌<◌, ◌≤◌, ℕ, zero, suc, true, false, ◌&&◌, ◌==◌, cond, [], ◌∷◌, length, get_or, set, Option, Some, None, refl, ap, ◌∙◌, subst, arith}
use Rattle.std.specs.Prelude.{insert, remove, nat_eq, nat_le}
use Rattle.std.specs.List.{AllByRecursion, list_any, filter}
use Rattle.std.specs.List.Sorted.{IsPartitionedBy, IsPartitionPoint}
use Rattle.vx_flush.specs.Entries.{Entry, Numbers, is_of, kept_at, precedes, IsRising, IsPlace, Keeps, Drops, StandsAt, stays}

all_at : (P : Entry ℕ → Type 0) (es : Numbers) (k : ℕ) (d : Entry ℕ) → AllByRecursion P es → k < length es → P (get_or es k d)
all_at P [] k d h lt = absurd (omega (arith, lt))
all_at P (e ∷ es) zero d h lt = h.0
all_at P (e ∷ es) (suc k) d h lt = all_at P es k d h.1 (omega (arith, lt))

all_within : (P : Entry ℕ → Type 0) (es : Numbers) (d : Entry ℕ) → ((k : ℕ) → k < length es → P (get_or es k d)) → AllByRecursion P es
all_within P [] d h = tt
all_within P (e ∷ es) d h = (h 0 (omega arith), all_within P es d (λ k lt. h (suc k) (omega (arith, lt))))

pub same_entry : (es : Numbers) (at : ℕ) (d x : Entry ℕ) → at < length es → get_or es at d ≡ get_or es at x
same_entry [] at d x lt = absurd (omega (arith, lt))
same_entry (e ∷ es) zero d x lt = refl
same_entry (e ∷ es) (suc at) d x lt = same_entry es at d x (omega (arith, lt))

pub other_number : (n m : ℕ) → nat_eq n m ≡ false → n ≢ m
other_number n m is same = grind (arith, is, same)

module _ (ino page : ℕ) where
  before_both : (e d : Entry ℕ) → precedes d.0.0 d.0.1 e ≡ true → precedes ino page d ≡ true → precedes ino page e ≡ true
  before_both e d below h = grind (arith, below, h)

  pub parted : (es : Numbers) → IsRising es → IsPartitionedBy (precedes ino page) es
  parted [] h i j d le lt is = absurd (omega (arith, lt))
  parted (e ∷ es) h zero zero d le lt is = is
  parted (e ∷ es) h zero (suc j) d le lt is = before_both e (get_or es j d) (all_at (λ x. precedes x.0.0 x.0.1 e ≡ true) es j d h.0 (omega (arith, lt))) is
  parted (e ∷ es) h (suc i) zero d le lt is = absurd (omega (arith, le))
  parted (e ∷ es) h (suc i) (suc j) d le lt is = parted es h.1 i j d (omega (arith, le)) (omega (arith, lt)) is

  pub place_found : (es : Numbers) (at : ℕ) → at ≤ length es → IsPartitionPoint (λ e. precedes ino page e ≡ true) (λ e. precedes ino page e ≡ false) es at → IsPlace ino page es at
  place_found es zero le p = all_within (λ e. precedes ino page e ≡ false) es ((0, 0), 0) (λ k lt. p.1 k ((0, 0), 0) (omega arith) lt)
  place_found [] (suc at) le p = tt
  place_found (e ∷ es) (suc at) le p = (
    p.0 0 ((0, 0), 0) (omega arith) (omega arith),
    place_found es at (omega (arith, le)) (λ k d a b. p.0 (suc k) d (omega arith) (omega (arith, b)), λ k d a b. p.1 (suc k) d (omega (arith, a)) (omega (arith, b))),
  )

  -- past an entry that doesn't stand before the page's, the page is not
  none_after : (e : Entry ℕ) (es : Numbers) → precedes ino page e ≡ false → AllByRecursion (λ d. precedes d.0.0 d.0.1 e ≡ true) es → kept_at ino page es ≡ None
  none_after e [] not_before h = refl
  none_after e (d ∷ es) not_before h = grind (arith, not_before, h.0, none_after e es not_before h.1)

  pub at_place : (es : Numbers) (at : ℕ) (d : Entry ℕ) → IsRising es → IsPlace ino page es at → at < length es → is_of ino page (get_or es at d) ≡ true → kept_at ino page es ≡ Some (get_or es at d).1
  at_place [] at d h p lt is = absurd (omega (arith, lt))
  at_place (e ∷ es) zero d h p lt is = grind (arith, is)
  at_place (e ∷ es) (suc at) d h p lt is = grind (arith, p.0, at_place es at d h.1 p.1 (omega (arith, lt)) is)

  pub not_at_place : (es : Numbers) (at : ℕ) (d : Entry ℕ) → IsRising es → IsPlace ino page es at → (at < length es → is_of ino page (get_or es at d) ≡ false) → kept_at ino page es ≡ None
  not_at_place [] at d h p other = refl
  not_at_place (e ∷ es) zero d h p other = grind (arith, other (omega arith), none_after e es p.0 h.0)
  not_at_place (e ∷ es) (suc at) d h p other = grind (arith, p.0, not_at_place es at d h.1 p.1 (λ lt. other (omega (arith, lt))))

  -- ---- an entry more

  all_insert : (P : Entry ℕ → Type 0) (es : Numbers) (at : ℕ) (x : Entry ℕ) → P x → AllByRecursion P es → AllByRecursion P (insert es at x)
  all_insert P [] zero x here h = (here, tt)
  all_insert P [] (suc at) x here h = (here, tt)
  all_insert P (e ∷ es) zero x here h = (here, h)
  all_insert P (e ∷ es) (suc at) x here h = (h.0, all_insert P es at x here h.1)

  all_after : (number : ℕ) (es : Numbers) → AllByRecursion (λ e. precedes ino page e ≡ false) es → kept_at ino page es ≡ None → AllByRecursion (λ d. precedes d.0.0 d.0.1 ((ino, page), number) ≡ true) es
  all_after number [] h none = tt
  all_after number (e ∷ es) h none = (grind (arith, h.0, none), all_after number es h.1 (grind (arith, none)))

  pub rising_insert : (number : ℕ) (es : Numbers) (at : ℕ) → IsRising es → IsPlace ino page es at → kept_at ino page es ≡ None → IsRising (insert es at ((ino, page), number))
  rising_insert number [] zero h p none = (tt, tt)
  rising_insert number [] (suc at) h p none = (tt, tt)
  rising_insert number (e ∷ es) zero h p none = (all_after number (e ∷ es) p none, h)
  rising_insert number (e ∷ es) (suc at) h p none = (
    all_insert (λ d. precedes d.0.0 d.0.1 e ≡ true) es at ((ino, page), number) p.0 h.0,
    rising_insert number es at h.1 p.1 (grind (arith, none)),
  )

  pub enters : (number : ℕ) (es : Numbers) (at : ℕ) → kept_at ino page es ≡ None → Keeps ino page (Some number) es (insert es at ((ino, page), number))
  enters number [] zero none i q = refl
  enters number [] (suc at) none i q = refl
  enters number (e ∷ es) zero none i q = refl
  enters number (e ∷ es) (suc at) none i q = grind (arith, none, enters number es at (grind (arith, none)) i q)

  -- ---- an entry less

  all_remove : (P : Entry ℕ → Type 0) (es : Numbers) (at : ℕ) → AllByRecursion P es → AllByRecursion P (remove es at)
  all_remove P [] zero h = tt
  all_remove P [] (suc at) h = tt
  all_remove P (e ∷ es) zero h = h.1
  all_remove P (e ∷ es) (suc at) h = (h.0, all_remove P es at h.1)

  pub rising_remove : (es : Numbers) (at : ℕ) → IsRising es → IsRising (remove es at)
  rising_remove [] zero h = tt
  rising_remove [] (suc at) h = tt
  rising_remove (e ∷ es) zero h = h.1
  rising_remove (e ∷ es) (suc at) h = (all_remove (λ d. precedes d.0.0 d.0.1 e ≡ true) es at h.0, rising_remove es at h.1)

  gone : (es : Numbers) (i q : ℕ) → ((ino == i) && (page == q)) ≡ true → kept_at ino page es ≡ None → kept_at i q es ≡ None
  gone es i q same none =
      let a : ino ≡ i = grind (arith, same) in let b : page ≡ q = grind (arith, same) in
      subst (λ x. kept_at x q es ≡ None) a (subst (λ x. kept_at ino x es ≡ None) b none)

  skipped : (e : Entry ℕ) (es : Numbers) (i q : ℕ) → is_of ino page e ≡ true → ((ino == i) && (page == q)) ≡ false → kept_at i q es ≡ kept_at i q (e ∷ es)
  skipped e es i q is other = let apart : is_of i q e ≡ false = grind (arith, is, other) in rw apart refl

  passed : (o : Option ℕ) (e : Entry ℕ) (i q : ℕ) (x y : Option ℕ) → precedes ino page e ≡ true → x ≡ cond ((ino == i) && (page == q)) o y → cond (is_of i q e) (Some e.1) x ≡ cond ((ino == i) && (page == q)) o (cond (is_of i q e) (Some e.1) y)
  passed o e i q x y before h = (elim ((ino == i) && (page == q)) as (λ b. ((ino == i) && (page == q)) ≡ b → x ≡ cond b o y → cond (is_of i q e) (Some e.1) x ≡ cond b o (cond (is_of i q e) (Some e.1) y)) [
    | true ↦ λ same g. let apart : is_of i q e ≡ false = grind (arith, same, before) in rw (apart, g) refl
    | false ↦ λ other g. rw g refl
  ]) refl h

  pub leaves : (es : Numbers) (at : ℕ) (d : Entry ℕ) → IsRising es → IsPlace ino page es at → at < length es → is_of ino page (get_or es at d) ≡ true → Keeps ino page None es (remove es at)
  leaves [] at d h p lt is i q = absurd (omega (arith, lt))
  leaves (e ∷ es) zero d h p lt is i q = (elim ((ino == i) && (page == q)) as (λ b. ((ino == i) && (page == q)) ≡ b → kept_at i q es ≡ cond b None (kept_at i q (e ∷ es))) [
    | true ↦ λ same. gone es i q same (none_after e es p.0 h.0)
    | false ↦ λ other. skipped e es i q is other
  ]) refl
  leaves (e ∷ es) (suc at) d h p lt is i q = passed None e i q (kept_at i q (remove es at)) (kept_at i q es) p.0 (leaves es at d h.1 p.1 (omega (arith, lt)) is i q)

  pub leaves_none : (es : Numbers) → kept_at ino page es ≡ None → Keeps ino page None es es
  leaves_none es none i q = (elim ((ino == i) && (page == q)) as (λ b. ((ino == i) && (page == q)) ≡ b → kept_at i q es ≡ cond b None (kept_at i q es)) [
    | true ↦ λ same. grind (arith, same, none)
    | false ↦ λ other. refl
  ]) refl

  -- ---- an entry with another number

  all_same : (n : ℕ) (e : Entry ℕ) (es : Numbers) → is_of ino page e ≡ true → AllByRecursion (λ d. precedes d.0.0 d.0.1 e ≡ true) es → AllByRecursion (λ d. precedes d.0.0 d.0.1 ((ino, page), n) ≡ true) es
  all_same n e [] is h = tt
  all_same n e (d ∷ es) is h = (grind (arith, is, h.0), all_same n e es is h.1)

  all_set : (n : ℕ) (e : Entry ℕ) (es : Numbers) (at : ℕ) → ((x : Entry ℕ) → at < length es → is_of ino page (get_or es at x) ≡ true) → AllByRecursion (λ d. precedes d.0.0 d.0.1 e ≡ true) es → AllByRecursion (λ d. precedes d.0.0 d.0.1 e ≡ true) (set es at ((ino, page), n))
  all_set n e [] zero is h = tt
  all_set n e [] (suc at) is h = tt
  all_set n e (d ∷ es) zero is h = (grind (arith, is d (omega arith), h.0), h.1)
  all_set n e (d ∷ es) (suc at) is h = (h.0, all_set n e es at (λ x lt. is x (omega (arith, lt))) h.1)

  pub rising_set : (n : ℕ) (es : Numbers) (at : ℕ) → IsRising es → ((x : Entry ℕ) → at < length es → is_of ino page (get_or es at x) ≡ true) → IsRising (set es at ((ino, page), n))
  rising_set n [] zero h is = tt
  rising_set n [] (suc at) h is = tt
  rising_set n (e ∷ es) zero h is = (all_same n e es (is e (omega arith)) h.0, h.1)
  rising_set n (e ∷ es) (suc at) h is = (all_set n e es at (λ x lt. is x (omega (arith, lt))) h.0, rising_set n es at h.1 (λ x lt. is x (omega (arith, lt))))

  pub sets : (n : ℕ) (es : Numbers) (at : ℕ) → IsPlace ino page es at → at < length es → ((x : Entry ℕ) → is_of ino page (get_or es at x) ≡ true) → Keeps ino page (Some n) es (set es at ((ino, page), n))
  sets n [] at p lt is i q = absurd (omega (arith, lt))
  sets n (e ∷ es) zero p lt is i q = (elim ((ino == i) && (page == q)) as (λ b. ((ino == i) && (page == q)) ≡ b → cond b (Some n) (kept_at i q es) ≡ cond b (Some n) (kept_at i q (e ∷ es))) [
    | true ↦ λ same. refl
    | false ↦ λ other. skipped e es i q (is e) other
  ]) refl
  sets n (e ∷ es) (suc at) p lt is i q = passed (Some n) e i q (kept_at i q (set es at ((ino, page), n))) (kept_at i q es) p.0 (sets n es at p.1 (omega (arith, lt)) is i q)

  -- ---- no entry of the file from the page on

  all_stay : (e : Entry ℕ) (es : Numbers) → AllByRecursion (λ d. precedes d.0.0 d.0.1 e ≡ true) es → AllByRecursion (λ d. precedes d.0.0 d.0.1 e ≡ true) (filter (stays ino page) es)
  all_stay e [] h = tt
  all_stay e (d ∷ es) h = elim (stays ino page d) as (λ b. AllByRecursion (λ x. precedes x.0.0 x.0.1 e ≡ true) (cond b (d ∷ filter (stays ino page) es) (filter (stays ino page) es))) [
    | true ↦ (h.0, all_stay e es h.1)
    | false ↦ all_stay e es h.1
  ]

  pub rising_stay : (es : Numbers) → IsRising es → IsRising (filter (stays ino page) es)
  rising_stay [] h = tt
  rising_stay (e ∷ es) h = elim (stays ino page e) as (λ b. IsRising (cond b (e ∷ filter (stays ino page) es) (filter (stays ino page) es))) [
    | true ↦ (all_stay e es h.0, rising_stay es h.1)
    | false ↦ rising_stay es h.1
  ]

  pub drops : (es : Numbers) → Drops ino page es (filter (stays ino page) es)
  drops [] i q = (elim ((ino == i) && nat_le page q) as (λ b. None ≡ cond {A = Option ℕ} b None None) [
    | true ↦ refl
    | false ↦ refl
  ])
  drops (e ∷ es) i q = grind (arith, drops es i q)

  pub fewer_stay : (es : Numbers) → length (filter (stays ino page) es) ≤ length es
  fewer_stay [] = omega arith
  fewer_stay (e ∷ es) = elim (stays ino page e) as (λ b. length (cond b (e ∷ filter (stays ino page) es) (filter (stays ino page) es)) ≤ length (e ∷ es)) [
    | true ↦ omega (arith, fewer_stay es)
    | false ↦ omega (arith, fewer_stay es)
  ]

  abbrev pub LacksFrom : Numbers → Type 0
  LacksFrom es = (q : ℕ) → page ≤ q → kept_at ino q es ≡ None

  lacks_after : (e : Entry ℕ) (es : Numbers) (q : ℕ) → precedes ino page e ≡ false → e.0.0 ≢ ino → page ≤ q → AllByRecursion (λ d. precedes d.0.0 d.0.1 e ≡ true) es → kept_at ino q es ≡ None
  lacks_after e [] q after other le h = refl
  lacks_after e (d ∷ es) q after other le h = grind (arith, after, other, le, h.0, lacks_after e es q after other le h.1)

  pub lacks_from : (es : Numbers) (at : ℕ) (d : Entry ℕ) → IsRising es → IsPlace ino page es at → (at < length es → (get_or es at d).0.0 ≢ ino) → LacksFrom es
  lacks_from [] at d h p other q le = refl
  lacks_from (e ∷ es) zero d h p other q le = let apart = other (omega arith) in grind (arith, apart, lacks_after e es q p.0 apart le h.0)
  lacks_from (e ∷ es) (suc at) d h p other q le = grind (arith, p.0, le, lacks_from es at d h.1 p.1 (λ lt. other (omega (arith, lt))) q le)

  pub drops_none : (es : Numbers) → LacksFrom es → Drops ino page es es
  drops_none es none i q = (elim ((ino == i) && nat_le page q) as (λ b. ((ino == i) && nat_le page q) ≡ b → kept_at i q es ≡ cond b None (kept_at i q es)) [
    | true ↦ λ same.
        let file : ino ≡ i = grind (arith, same) in
        let from : page ≤ q = grind (arith, same) in
        subst (λ (x : ℕ). kept_at x q es ≡ None) file (none q from)
    | false ↦ λ other. refl
  ]) refl

  -- ---- what is found

  pub number_found : (es : Numbers) (at : ℕ) (d : Entry ℕ) → IsRising es → StandsAt ino page es at → kept_at ino page es ≡ Some (get_or es at d).1
  number_found es at d h found = at_place es at d h found.place found.within (found.is d)

  pub stands_at : (es : Numbers) (at : ℕ) (x : Entry ℕ) → at < length es → IsPlace ino page es at → is_of ino page (get_or es at x) ≡ true → StandsAt ino page es at
  stands_at es at x lt p is = record { within = lt; place = p; is = λ d. ap (is_of ino page) (same_entry es at d x lt) ∙ is }

-- ---- numbers of any page

apart : (e : Entry ℕ) (es : Numbers) (i q n : ℕ) → AllByRecursion (λ d. precedes d.0.0 d.0.1 e ≡ true) es → kept_at i q es ≡ Some n → is_of i q e ≡ false
apart e [] i q n h is = absurd (let differs : None ≡ Some n = is in cc)
apart e (d ∷ es) i q n h is = (elim (is_of i q d) as (λ b. is_of i q d ≡ b → cond b (Some d.1) (kept_at i q es) ≡ Some n → is_of i q e ≡ false) [
  | true ↦ λ same found. grind (arith, same, h.0)
  | false ↦ λ other found. apart e es i q n h.1 found
]) refl is

pub any_found : (n : ℕ) (es : Numbers) → IsRising es → list_any (λ (e : Entry ℕ). nat_eq e.1 n) es ≡ true → (i : ℕ) × (q : ℕ) × (kept_at i q es ≡ Some n)
any_found n [] h is = absurd (cc)
any_found n (e ∷ es) h is = (elim (nat_eq e.1 n) as (λ b. nat_eq e.1 n ≡ b → list_any (λ (e : Entry ℕ). nat_eq e.1 n) (e ∷ es) ≡ true → (i : ℕ) × (q : ℕ) × (kept_at i q (e ∷ es) ≡ Some n)) [
  | true ↦ λ same there. (e.0.0, e.0.1, grind (arith, same))
  | false ↦ λ other there.
      let rest = any_found n es h.1 (grind (arith, other, there)) in
      (rest.0, rest.1, rw (apart e es rest.0 rest.1 n h.0 rest.2) rest.2)
]) refl is

pub any_missed : (n : ℕ) (es : Numbers) → list_any (λ (e : Entry ℕ). nat_eq e.1 n) es ≡ false → (i q : ℕ) → kept_at i q es ≢ Some n
any_missed n [] h i q is = absurd (let differs : None ≡ Some n = is in cc)
any_missed n (e ∷ es) h i q is = (elim (is_of i q e) as (λ b. cond b (Some e.1) (kept_at i q es) ≡ Some n → ⊥) [
  | true ↦ λ same. grind (arith, h, same)
  | false ↦ λ other. any_missed n es (grind (arith, h)) i q other
]) is
