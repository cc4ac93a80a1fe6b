-- What the lists, the runs and the counts of a map keep when blocks are taken, given back, added and released.
use Rattle.std.proofs.Common.{◌≡◌, ◌⊎◌, ℕ, ◌+◌, ◌-◌, ◌*◌, ◌%◌, ◌<◌, ◌≤◌, Bool, true, false, cond, leb, ltb, ◌&&◌, ◌||◌, List, ◌++◌, length, get_or, replicate, Option, Some, None, inl, inr, refl, sym, ◌∙◌, ap, ap₂, arith}
use Rattle.std.proofs.lemmas.Bool.{cases_Bool, cases_lt, and_parts, and_from, and_left, and_right, or_cases, le-leb, lt-ltb, le-ltb, lt-leb, both_ways, false≢true}
use Rattle.std.proofs.lemmas.List.{get_or_past, get_or_append_left, get_or-append_right, get_or-replicate, length-replicate, length-append, length-map, get_or-map, ext_get_or}
use Rattle.std.proofs.lemmas.List.FromFn.{get_or-map-range_with_len, length-map-range_with_len, fill_by_all}
use Rattle.std.proofs.lemmas.List.Sums.{get_or-le-sum_by, sum_by-le-sum_by}
use Rattle.std.specs.List.{count_by}
use Rattle.std.specs.Option.{is_some}
use Rattle.vx_alloc.specs.FreeMaps.{FreeMapView, cleared, data_bits, is_before, free_with, still_pending, released}
use Rattle.vx_alloc.specs.RunIndexes.{RunIndexView, covers, is_within, is_data_place, is_unit_data, IsIndexed}
use Rattle.vx_alloc.proofs.Bits.{length-data_bits}
use Rattle.vx_alloc.proofs.RunLists.{within_from, outside}
use Rattle.vx_alloc.proofs.Counts.{is_set, get_or-cleared_in, get_or-cleared_out, count_cleared}

is_within_cases : (from n i : ℕ) → ((from ≤ i) × (i < from + n)) ⊎ (is_within from n i ≡ false)
is_within_cases from n i = elim (cases_lt i from) [
  | inl below ↦ inr (outside from n i (λ low. absurd (omega arith)))
  | inr low ↦ elim (cases_lt i (from + n)) [
    | inl high ↦ inl (low, high)
    | inr past ↦ inr (outside from n i (λ l. past))
  ]
]

or_left_false : (a b : Bool) → a ≡ false → a || b ≡ b
or_left_false true b off = absurd (false≢true (sym off))
or_left_false false b off = refl

or_right_false : (a b : Bool) → b ≡ false → a ≡ a || b
or_right_false true b off = refl
or_right_false false b off = sym off

abbrev nothing : Option ℕ
nothing = None

-- ---- blocks taken

pub taken_index : (per_unit room : ℕ) (free : List Bool) (pending : List (Option ℕ)) (index index' : RunIndexView) (free_count pending_count from n : ℕ) → IsIndexed per_unit room free pending index free_count pending_count → from + n ≤ length free → ((i : ℕ) → from ≤ i → i < from + n → get_or free i false ≡ true)
    → ((i : ℕ) → covers index.runs i ≡ is_within from n i || covers index'.runs i) → ((i : ℕ) → is_within from n i ≡ true → covers index'.runs i ≡ false) → index'.room ≡ index.room → IsIndexed per_unit room (cleared free from n) pending index' (free_count - n) pending_count
taken_index per_unit room free pending index index' free_count pending_count from n is fits all splits gone same = record {
  covered = λ i. elim (is_within_cases from n i) [
    | inl inside ↦ gone i (within_from from n i inside.0 inside.1) ∙ sym (get_or-cleared_in free from n i inside.0 inside.1)
    | inr out ↦ sym (splits i ∙ or_left_false _ _ out) ∙ is.covered i ∙ sym (get_or-cleared_out free from n i (λ low. still_out i out low))
  ];
  blocks = same ∙ is.blocks;
  placed = λ i bit. elim (is_within_cases from n i) [
    | inl inside ↦ absurd (both_ways _ (get_or-cleared_in free from n i inside.0 inside.1) bit)
    | inr out ↦ is.placed i (sym (get_or-cleared_out free from n i (λ low. still_out i out low)) ∙ bit)
  ];
  pending_placed = is.pending_placed;
  apart = λ i bit. elim (is_within_cases from n i) [
    | inl inside ↦ absurd (both_ways _ (get_or-cleared_in free from n i inside.0 inside.1) bit)
    | inr out ↦ is.apart i (sym (get_or-cleared_out free from n i (λ low. still_out i out low)) ∙ bit)
  ];
  counted = let count : free_count ≡ count_by is_set free = is.counted in let fewer : count_by is_set (cleared free from n) + n ≡ count_by is_set free = count_cleared free from n fits all in omega arith;
  pending_counted = is.pending_counted;
}
  where
    still_out : (i : ℕ) → is_within from n i ≡ false → from ≤ i → from + n ≤ i
    still_out i out low = elim (cases_lt i (from + n)) [
      | inl high ↦ absurd (both_ways _ out (within_from from n i low high))
      | inr past ↦ past
    ]

-- ---- units added

module _ (p u w : ℕ) (free : List Bool) (bits : length free ≡ 4096 * u) (more : u < w) where
  abbrev pub grown_bits : List Bool
  grown_bits = free ++ data_bits p (4096 * (w - u))

  -- a block's bit after its units are added
  pub grown_bit : (i : ℕ) → get_or grown_bits i false ≡ get_or free i false || is_unit_data p u w i
  grown_bit i =
      let long : length (data_bits p (4096 * (w - u))) ≡ 4096 * (w - u) = length-data_bits p (4096 * (w - u)) in
      elim (cases_lt i (4096 * u)) [
        | inl below ↦
            get_or_append_left free (data_bits p (4096 * (w - u))) false i (omega arith)
            ∙ or_right_false _ _ (and_left _ _ (and_left (leb (4096 * u) i) (ltb i (4096 * w)) (lt-leb (4096 * u) i below)))
        | inr from ↦
            let past : get_or free i false ≡ false = get_or_past free i false (omega arith) in
            let at : get_or grown_bits i false ≡ get_or (data_bits p (4096 * (w - u))) (i - 4096 * u) false = get_or-append_right free (data_bits p (4096 * (w - u))) (4096 * u) i false bits from in
            elim (cases_lt i (4096 * w)) [
              | inl within ↦
                  let place : (i - 4096 * u) % 4096 ≡ i % 4096 = omega arith in
                  let new : get_or (data_bits p (4096 * (w - u))) (i - 4096 * u) false ≡ is_data_place p (i - 4096 * u) =
                  get_or-map-range_with_len (λ k. leb (4096 - p) (k % 4096)) 0 (4096 * (w - u)) (i - 4096 * u) (i - 4096 * u) false (omega arith) (omega arith) in
                  at ∙ new ∙ ap (leb (4096 - p)) place ∙ sym (or_left_false _ _ past ∙ ap (λ (b : Bool). b && is_data_place p i) (and_from _ _ (le-leb (4096 * u) i from) (lt-ltb i (4096 * w) within)))
              | inr beyond ↦
                  at ∙ get_or_past (data_bits p (4096 * (w - u))) (i - 4096 * u) false (omega arith)
                  ∙ sym (or_left_false _ _ past ∙ and_left _ _ (and_right (leb (4096 * u) i) (ltb i (4096 * w)) (le-ltb i (4096 * w) beyond)))
            ]
      ]

  pub length-grown : length grown_bits ≡ 4096 * w
  length-grown =
      let joined : length grown_bits ≡ length free + length (data_bits p (4096 * (w - u))) = length-append free (data_bits p (4096 * (w - u))) in
      let long : length (data_bits p (4096 * (w - u))) ≡ 4096 * (w - u) = length-data_bits p (4096 * (w - u)) in
      omega arith

  pub grown_index : (room free_count pending_count free_count' pending_count' : ℕ) (pending : List (Option ℕ)) (index index' : RunIndexView) → length pending ≡ 4096 * u → IsIndexed p room free pending index free_count pending_count
      → ((i : ℕ) → covers index'.runs i ≡ covers index.runs i || is_unit_data p u w i) → index'.room ≡ index.room → free_count' ≡ count_by is_set grown_bits → pending_count' ≡ count_by is_some (pending ++ replicate (4096 * (w - u)) None)
      → IsIndexed p room grown_bits (pending ++ replicate (4096 * (w - u)) None) index' free_count' pending_count'
  grown_index room free_count pending_count free_count' pending_count' pending index index' places is added same counted pending_counted = record {
    covered = λ i. added i ∙ ap (λ (b : Bool). b || is_unit_data p u w i) (is.covered i) ∙ sym (grown_bit i);
    blocks = same ∙ is.blocks;
    placed = λ i bit. elim (or_cases _ _ (sym (grown_bit i) ∙ bit)) [
      | inl old ↦ is.placed i old
      | inr new ↦ (and_parts (leb (4096 * u) i && ltb i (4096 * w)) (is_data_place p i) new).1
    ];
    pending_placed = λ i some. elim (cases_lt i (4096 * u)) [
      | inl below ↦ is.pending_placed i (sym (ap is_some (get_or_append_left pending (replicate (4096 * (w - u)) None) None i (omega arith))) ∙ some)
      | inr from ↦ absurd (both_ways _ (ap is_some (get_or-append_right pending (replicate (4096 * (w - u)) None) (4096 * u) i None places from ∙ none_there (4096 * (w - u)) (i - 4096 * u))) some)
    ];
    apart = λ i bit. elim (cases_lt i (4096 * u)) [
      | inl below ↦
          let at : is_some (get_or (pending ++ replicate (4096 * (w - u)) None) i None) ≡ is_some (get_or pending i None) = ap is_some (get_or_append_left pending (replicate (4096 * (w - u)) None) None i (omega arith)) in
          elim (or_cases _ _ (sym (grown_bit i) ∙ bit)) [
            | inl old ↦ at ∙ is.apart i old
            | inr new ↦ absurd (both_ways _ (lt-leb (4096 * u) i below) (and_parts (leb (4096 * u) i) (ltb i (4096 * w)) (and_parts (leb (4096 * u) i && ltb i (4096 * w)) (is_data_place p i) new).0).0)
          ]
      | inr from ↦ ap is_some (get_or-append_right pending (replicate (4096 * (w - u)) None) (4096 * u) i None places from ∙ none_there (4096 * (w - u)) (i - 4096 * u))
    ];
    counted = counted;
    pending_counted = pending_counted;
  }
    where
      none_there : (n i : ℕ) → get_or (replicate n nothing) i nothing ≡ nothing
      none_there n i = elim (cases_lt i n) [
        | inl within ↦ get_or-replicate n i nothing nothing within
        | inr past ↦ let long : length (replicate n nothing) ≡ n = length-replicate n nothing in get_or_past (replicate n nothing) i nothing (omega arith)
      ]

-- ---- blocks released

before_some : (upto : ℕ) (place : Option ℕ) → is_before upto place ≡ true → is_some place ≡ true
before_some upto None is = is
before_some upto (Some n) is = refl

kept_some : (upto : ℕ) (place : Option ℕ) → is_some (cond (is_before upto place) None place) ≡ true → is_some place ≡ true
kept_some upto None is = is
kept_some upto (Some n) is = refl

not_kept : (b : Bool) (place : Option ℕ) → is_some place ≡ false → is_some (cond b nothing place) ≡ false
not_kept true place none = refl
not_kept false place none = none

past_end : (xs : List Bool) (i : ℕ) → get_or xs i false ≡ true → i < length xs
past_end xs i bit = elim (cases_lt i (length xs)) [
  | inl within ↦ within
  | inr past ↦ absurd (both_ways _ (get_or_past xs i false past) bit)
]

some_within : (xs : List (Option ℕ)) (i : ℕ) → is_some (get_or xs i None) ≡ true → i < length xs
some_within xs i some = elim (cases_lt i (length xs)) [
  | inl within ↦ within
  | inr past ↦ absurd (both_ways _ (ap is_some (get_or_past xs i None past)) some)
]

pub length-free_with : (upto : ℕ) (pending : List (Option ℕ)) (free : List Bool) → length (free_with upto pending free) ≡ length free
length-free_with upto pending free = length-map-range_with_len (λ k. is_before upto (get_or pending k None) || get_or free k false) 0 (length free)

pub length-still_pending : (upto : ℕ) (pending : List (Option ℕ)) → length (still_pending upto pending) ≡ length pending
length-still_pending upto pending = length-map pending (λ place. cond (is_before upto place) None place)

pub released_index : (upto per_unit room free_count pending_count free_count' pending_count' : ℕ) (free free' : List Bool) (pending pending' : List (Option ℕ)) (index index' : RunIndexView) → IsIndexed per_unit room free pending index free_count pending_count → free' ≡ free_with upto pending free → pending' ≡ still_pending upto pending
    → ((i : ℕ) → covers index'.runs i ≡ get_or free' i false) → index'.room ≡ index.room → free_count' ≡ count_by is_set free' → pending_count' ≡ count_by is_some pending' → IsIndexed per_unit room free' pending' index' free_count' pending_count'
released_index upto per_unit room free_count pending_count free_count' pending_count' free free' pending pending' index index' is free_is pending_is covered same counted pending_counted = record {
  covered = covered;
  blocks = same ∙ is.blocks;
  placed = λ i bit.
      let within : i < length free' = past_end free' i bit in
      let long : length free' ≡ length free = ap length free_is ∙ length-free_with upto pending free in
      let at : get_or free' i false ≡ is_before upto (get_or pending i None) || get_or free i false = ap (λ (bits : List Bool). get_or bits i false) free_is ∙ get_or-map-range_with_len (λ k. is_before upto (get_or pending k None) || get_or free k false) 0 (length free) i i false (omega arith) (omega arith) in
      elim (or_cases _ _ (sym at ∙ bit)) [
        | inl due ↦ is.pending_placed i (before_some upto (get_or pending i None) due)
        | inr old ↦ is.placed i old
      ];
  pending_placed = λ i some.
      let within : i < length pending' = some_within pending' i some in
      let long : length pending' ≡ length pending = ap length pending_is ∙ length-still_pending upto pending in
      let at : get_or pending' i None ≡ cond (is_before upto (get_or pending i None)) None (get_or pending i None) = ap (λ (places : List (Option ℕ)). get_or places i None) pending_is ∙ get_or-map (λ place. cond (is_before upto place) None place) pending i None None (omega arith) in
      is.pending_placed i (kept_some upto (get_or pending i None) (sym (ap is_some at) ∙ some));
  apart = λ i bit.
      let within : i < length free' = past_end free' i bit in
      let long : length free' ≡ length free = ap length free_is ∙ length-free_with upto pending free in
      let free_at : get_or free' i false ≡ is_before upto (get_or pending i None) || get_or free i false = ap (λ (bits : List Bool). get_or bits i false) free_is ∙ get_or-map-range_with_len (λ k. is_before upto (get_or pending k None) || get_or free k false) 0 (length free) i i false (omega arith) (omega arith) in
      elim (cases_lt i (length pending)) [
        | inr past ↦ ap is_some (get_or_past pending' i None (let as_many : length pending' ≡ length pending = ap length pending_is ∙ length-still_pending upto pending in omega arith))
        | inl there ↦
            let at : get_or pending' i None ≡ cond (is_before upto (get_or pending i None)) None (get_or pending i None) = ap (λ (places : List (Option ℕ)). get_or places i None) pending_is ∙ get_or-map (λ place. cond (is_before upto place) None place) pending i None None there in
            ap is_some at ∙ elim (or_cases _ _ (sym free_at ∙ bit)) [
              | inl due ↦ ap (λ (b : Bool). is_some (cond b nothing (get_or pending i None))) due
              | inr old ↦ not_kept (is_before upto (get_or pending i None)) (get_or pending i None) (is.apart i old)
            ]
      ];
  counted = counted;
  pending_counted = pending_counted;
}

-- where nothing waits

none_waits : (pending : List (Option ℕ)) → count_by is_some pending ≡ 0 → (i : ℕ) → is_some (get_or pending i None) ≡ false
none_waits pending none i = elim (cases_lt i (length pending)) [
  | inr past ↦ ap is_some (get_or_past pending i None past)
  | inl within ↦ elim (cases_Bool (is_some (get_or pending i None))) [
    | inr waits_not ↦ waits_not
    | inl waits ↦
        let one : ◌≡◌ {A = ℕ} (cond (is_some (get_or pending i None)) 1 0) 1 = ap (λ (b : Bool). cond {A = ℕ} b 1 0) waits in
        let most : cond {A = ℕ} (is_some (get_or pending i None)) 1 0 ≤ count_by is_some pending = get_or-le-sum_by (λ (o : Option ℕ). cond {A = ℕ} (is_some o) 1 0) pending i None within in
        absurd (omega arith)
  ]
]

before_not : (upto : ℕ) (place : Option ℕ) → is_some place ≡ false → is_before upto place ≡ false
before_not upto None none = refl
before_not upto (Some n) none = absurd (false≢true (sym none))

pub none_due : (upto : ℕ) (pending : List (Option ℕ)) → count_by is_some pending ≡ 0 → 0 ≡ count_by (is_before upto) pending
none_due upto pending none =
    let fewer : count_by (is_before upto) pending ≤ count_by is_some pending = sum_by-le-sum_by (λ (o : Option ℕ). cond {A = ℕ} (is_before upto o) 1 0) (λ (o : Option ℕ). cond {A = ℕ} (is_some o) 1 0) pending (less upto) in
    omega arith
  where
    less : (upto : ℕ) (o : Option ℕ) → cond {A = ℕ} (is_before upto o) 1 0 ≤ cond {A = ℕ} (is_some o) 1 0
    less upto None = omega arith
    less upto (Some n) = at_most (is_before upto (Some n))
      where
        at_most : (b : Bool) → cond {A = ℕ} b 1 0 ≤ 1
        at_most true = omega arith
        at_most false = omega arith

pub none_released : (view : FreeMapView) (upto : ℕ) → count_by is_some view.pending ≡ 0 → view ≡ released view upto
none_released view upto none =
    let free : view.free ≡ free_with upto view.pending view.free =
    fill_by_all (λ k. is_before upto (get_or view.pending k None) || get_or view.free k false) view.free (length view.free) false refl
    (λ k h. sym (or_left_false _ _ (before_not upto (get_or view.pending k None) (none_waits view.pending none k)))) in
    let pending : view.pending ≡ still_pending upto view.pending =
    ext_get_or None view.pending (still_pending upto view.pending) (sym (length-map view.pending (λ place. cond (is_before upto place) None place)))
    (λ k h. sym (get_or-map (λ place. cond (is_before upto place) None place) view.pending k None None h ∙ ap (λ (b : Bool). cond b None (get_or view.pending k None)) (before_not upto (get_or view.pending k None) (none_waits view.pending none k)))) in
    ap₂ (λ (bits : List Bool) (places : List (Option ℕ)). record view { free = bits; pending = places }) free pending
