-- Lists of the same runs in different orders.
use Rattle.std.proofs.Common.{◌≡◌, ℕ, suc, ◌+◌, ◌*◌, ◌<◌, ◌≤◌, Bool, true, cond, eqb, ◌&&◌, List, ◌∷◌, [], length, get_or, inl, inr, refl, sym, ◌∙◌, ap, ap₂, subst, arith}
use Rattle.std.proofs.lemmas.Bool.{cases_Bool, and_parts, and_from, eqb-true, eq-eqb, cond-true, cond-false}
use Rattle.std.proofs.lemmas.List.Sums.{sum_by-cons, get_or-le-sum_by}
use Rattle.std.proofs.lemmas.List.Elements.{All-cons, All-tail, Contains-get_or}
use Rattle.std.proofs.lemmas.List.Sorted.{All-permutation, length_permutation, sum_by_pushed, sum_by_popped}
use Rattle.std.specs.List.{Contains, sum_by}
use Rattle.std.specs.List.Sorted.{IsNonDecreasingBy, IsPermutation}
use Rattle.vx_alloc.specs.declared.run_index.Run.{Run}
use Rattle.vx_alloc.specs.RunIndexes.{rank, AreApart, IsInside, AreInside, AreSame, AreLow, IsRunIndex}
use Rattle.vx_alloc.proofs.RunLists.{few}

abbrev is_run : Run → Run → Bool
is_run x y = eqb x.start y.start && eqb x.len y.len

is_run_same : (x y : Run) → is_run x y ≡ true → y ≡ x
is_run_same x y is =
    let parts = and_parts _ _ is in
    let starts : y.start ≡ x.start = sym (eqb-true x.start y.start parts.0) in
    let lengths : y.len ≡ x.len = sym (eqb-true x.len y.len parts.1) in
    ap₂ (λ (s n : ℕ). record { start = s; len = n }) starts lengths

abbrev one_at : Run → Run → ℕ
one_at x y = cond (is_run x y) 1 0

counted : (runs : List Run) (x : Run) → Contains runs x → 0 < sum_by (one_at x) runs
counted runs x has =
    let one : one_at x (get_or runs has.0 x) ≡ 1 = ap (one_at x) has.2 ∙ cond-true (is_run x x) 1 0 (and_from _ _ (eq-eqb x.start x.start refl) (eq-eqb x.len x.len refl)) in
    let most : one_at x (get_or runs has.0 x) ≤ sum_by (one_at x) runs = get_or-le-sum_by (one_at x) runs has.0 x has.1 in
    omega arith

has_from_count : (runs : List Run) (x : Run) → 0 < sum_by (one_at x) runs → Contains runs x
has_from_count [] x some = absurd (omega arith)
has_from_count (y ∷ runs) x some = elim (cases_Bool (is_run x y)) [
  | inl is ↦ (0, omega arith, is_run_same x y is)
  | inr other ↦
      let none : one_at x y ≡ 0 = cond-false (is_run x y) 1 0 other in
      let split : sum_by (one_at x) (y ∷ runs) ≡ one_at x y + sum_by (one_at x) runs = sum_by-cons (one_at x) y runs in
      let rest = has_from_count runs x (omega arith) in
      let within : rest.0 < length runs = rest.1 in
      (suc rest.0, omega arith, rest.2)
]

pub same_has : (runs others : List Run) (x : Run) → AreSame runs others → Contains runs x → Contains others x
same_has runs others x same has =
    let some : 0 < sum_by (one_at x) runs = counted runs x has in
    let equal : sum_by (one_at x) runs ≡ sum_by (one_at x) others = same (one_at x) in
    has_from_count others x (omega arith)

pub back_has : (runs others : List Run) (x : Run) → AreSame runs others → Contains others x → Contains runs x
back_has runs others x same has = same_has others runs x (λ f. sym (same f)) has

pub inside_low : (room : ℕ) (runs others : List Run) → room ≤ 4096 * 64 → AreInside room runs → AreSame runs others → AreLow others
inside_low room runs others most inside same k d here =
    let x : Run = get_or others k d in
    let has = back_has runs others x same (Contains-get_or others k d here) in
    let end : (get_or runs has.0 x).start + (get_or runs has.0 x).len ≤ room = (inside has.0 x has.1).end in
    let is : (get_or runs has.0 x).start ≡ x.start = ap (λ (r : Run). r.start) has.2 in
    omega arith

-- ---- a run more

pub more_inside : (room : ℕ) (runs all : List Run) (run : Run) → AreInside room runs → IsPermutation (run ∷ runs) all → 0 < run.len → run.start + run.len ≤ room → AreInside room all
more_inside room runs all run inside moved some end = All-permutation (IsInside room) (run ∷ runs) all moved (All-cons (IsInside room) run runs (record { some = some; end = end }) inside)

pub more_room : (room cap : ℕ) (runs all others : List Run) (run : Run) → AreApart all → AreInside room runs → IsPermutation (run ∷ runs) all → 0 < run.len → run.start + run.len ≤ room → room ≤ 2 * cap → length others ≡ length runs → length others < cap
more_room room cap runs all others run apart inside moved some end fits as_many =
    let most : 2 * length all ≤ room + 1 = few room all run apart (more_inside room runs all run inside moved some end) in
    let longer : length all ≡ suc (length runs) = length_permutation (run ∷ runs) all moved in
    omega arith

pub more_index : (room : ℕ) (runs others all all' : List Run) (run : Run) (room_s room_l cap_s cap_l : ℕ) → IsRunIndex room runs others room_s room_l → AreApart all → IsPermutation (run ∷ runs) all → IsNonDecreasingBy rank all' → IsPermutation (run ∷ others) all' → 0 < run.len → run.start + run.len ≤ room → room_s ≤ cap_s → room_l ≤ cap_l
    → IsRunIndex room all all' cap_s cap_l
more_index room runs others all all' run room_s room_l cap_s cap_l index apart moved ranked moved' some end no_less no_less' =
    let as_many : length others ≡ length runs = index.as_many in
    let longer : length all ≡ suc (length runs) = length_permutation (run ∷ runs) all moved in
    let longer' : length all' ≡ suc (length others) = length_permutation (run ∷ others) all' moved' in
    let fits : room ≤ 2 * room_s = index.start_rooms in
    let fits' : room ≤ 2 * room_l = index.length_rooms in
    record {
      most = index.most;
      apart = apart;
      inside = more_inside room runs all run index.inside moved some end;
      ranked = ranked;
      same = λ f. sum_by_pushed f run runs all moved ∙ ap (λ (n : ℕ). f run + n) (index.same f) ∙ sym (sum_by_pushed f run others all' moved');
      as_many = omega arith;
      start_rooms = omega arith;
      length_rooms = omega arith;
    }

-- ---- a run less

pub less_index : (room : ℕ) (runs others rest rest' : List Run) (run : Run) (room_s room_l cap_s cap_l : ℕ) → IsRunIndex room runs others room_s room_l → AreApart rest → IsPermutation runs (run ∷ rest) → IsNonDecreasingBy rank rest' → IsPermutation others (run ∷ rest') → room_s ≤ cap_s → room_l ≤ cap_l
    → IsRunIndex room rest rest' cap_s cap_l
less_index room runs others rest rest' run room_s room_l cap_s cap_l index apart moved ranked moved' no_less no_less' =
    let as_many : length others ≡ length runs = index.as_many in
    let shorter : suc (length rest) ≡ length runs = length_permutation runs (run ∷ rest) moved in
    let shorter' : suc (length rest') ≡ length others = length_permutation others (run ∷ rest') moved' in
    let fits : room ≤ 2 * room_s = index.start_rooms in
    let fits' : room ≤ 2 * room_l = index.length_rooms in
    record {
      most = index.most;
      apart = apart;
      inside = All-tail (IsInside room) run rest (All-permutation (IsInside room) runs (run ∷ rest) moved index.inside);
      ranked = ranked;
      same = λ f.
          let here : sum_by f rest + f run ≡ sum_by f runs = sum_by_popped f run runs rest moved in
          let there : sum_by f rest' + f run ≡ sum_by f others = sum_by_popped f run others rest' moved' in
          let equal : sum_by f runs ≡ sum_by f others = index.same f in
          omega arith;
      as_many = omega arith;
      start_rooms = omega arith;
      length_rooms = omega arith;
    }

-- more memory, for more blocks
pub reserved_index : (room room' : ℕ) (runs others runs' others' : List Run) (room_s room_l cap_s cap_l : ℕ) → IsRunIndex room runs others room_s room_l → runs' ≡ runs → others' ≡ others → room ≤ room' → room' ≤ 4096 * 64 → room' ≤ 2 * cap_s → room' ≤ 2 * cap_l
    → IsRunIndex room' runs' others' cap_s cap_l
reserved_index room room' runs others runs' others' room_s room_l cap_s cap_l index same same' more most fits fits' =
    subst (λ (xs : List Run). IsRunIndex room' xs others' cap_s cap_l) (sym same) (subst (λ (ys : List Run). IsRunIndex room' runs ys cap_s cap_l) (sym same') (record {
      most = most;
      apart = index.apart;
      inside = λ k d here. let is = index.inside k d here in record { some = is.some; end = let end : (get_or runs k d).start + (get_or runs k d).len ≤ room = is.end in omega arith };
      ranked = index.ranked;
      same = index.same;
      as_many = index.as_many;
      start_rooms = fits;
      length_rooms = fits';
    }))
