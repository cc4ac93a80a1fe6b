-- Runs that are joined to their neighbours.
use Rattle.std.proofs.Common.{◌≡◌, ℕ, ◌+◌, ◌-◌, ◌<◌, ◌≤◌, Bool, true, false, ◌||◌, List, inl, inr, refl, sym, ◌∙◌, ap, arith}
use Rattle.std.proofs.lemmas.Bool.{cases_lt, both_ways, or_parts, or_cases, or_left, or_right, or_from}
use Rattle.vx_alloc.specs.declared.run_index.Run.{Run}
use Rattle.vx_alloc.specs.RunIndexes.{is_within, in_run, covers, IsClear, IsFree, IsJoinedBefore, IsJoinedAfter}
use Rattle.vx_alloc.proofs.RunLists.{IsBetween, within_from, within_parts, outside}

pub same_tests : (a b : Bool) → (a ≡ true → b ≡ true) → (b ≡ true → a ≡ true) → a ≡ b
same_tests true b there back = sym (there refl)
same_tests false true there back = back refl
same_tests false false there back = refl

-- m numbers from s on, and n from where they end
pub within_joined : (s m n e i : ℕ) → s + m ≡ e → is_within s (m + n) i ≡ is_within s m i || is_within e n i
within_joined s m n e i ends =
    same_tests _ _
    (λ is.
    let low : s ≤ i = (within_parts s (m + n) i is).low in
    let high : i < s + (m + n) = (within_parts s (m + n) i is).high in
    elim (cases_lt i e) [
      | inl before ↦ or_left _ _ (within_from s m i low (omega arith))
      | inr after ↦ or_right _ _ (within_from e n i after (omega arith))
    ])
    (λ is. elim (or_cases _ _ is) [
      | inl first ↦
          let low : s ≤ i = (within_parts s m i first).low in
          let high : i < s + m = (within_parts s m i first).high in
          within_from s (m + n) i low (omega arith)
      | inr second ↦
          let low : e ≤ i = (within_parts e n i second).low in
          let high : i < e + n = (within_parts e n i second).high in
          within_from s (m + n) i (omega arith) (omega arith)
    ])

swapped : (b r n : Bool) → (b || r) || n ≡ r || (b || n)
swapped true true n = refl
swapped true false n = refl
swapped false r n = refl

regrouped : (r a n : Bool) → (r || a) || n ≡ r || (a || n)
regrouped true a n = refl
regrouped false a n = refl

-- a run that holds a block is the same at a number that equals it
in_clear : (run : Run) (runs : List Run) (i : ℕ) → IsClear run runs → in_run i run ≡ true → covers runs i ≡ false
in_clear run runs i clear is =
    let low : run.start ≤ i = (within_parts run.start run.len i is).low in
    let high : i < run.start + run.len = (within_parts run.start run.len i is).high in
    clear i (omega arith) (omega arith)

-- what is left after a run is taken out has no more than before
pub still_free : (old new taken : Bool) → old ≡ taken || new → old ≡ false → new ≡ false
still_free old new taken splits none = (or_parts taken new (sym splits ∙ none)).1

pub joined_front : (old new : List Run) (before run : Run) (len : ℕ) → 0 < run.start → 0 < run.len → IsFree run old → in_run (run.start - 1) before ≡ true → ((i : ℕ) → covers old i ≡ in_run i before || covers new i) → IsClear before new → len ≡ before.len + run.len
    → IsJoinedBefore old new run (record { start = before.start; len = len })
joined_front old new before run len start some free has splits clear is =
    let parts : IsBetween before.start before.len (run.start - 1) = within_parts before.start before.len (run.start - 1) has in
    let low : before.start ≤ run.start - 1 = parts.low in
    let high : run.start - 1 < before.start + before.len = parts.high in
    let meets : before.start + before.len ≡ run.start = elim (cases_lt run.start (before.start + before.len)) [
      | inl past ↦
          let here : covers old run.start ≡ true = splits run.start ∙ or_left _ _ (within_from before.start before.len run.start (omega arith) past) in
          absurd (both_ways _ (free run.start (within_from run.start run.len run.start (omega arith) (omega arith))) here)
      | inr upto ↦ omega arith
    ] in
    let both : (i : ℕ) → is_within before.start len i ≡ in_run i before || in_run i run = λ i. ap (λ (n : ℕ). is_within before.start n i) is ∙ within_joined before.start before.len run.len run.start i meets in
    record {
      keeps = λ i. ap (λ (b : Bool). b || covers new i) (both i) ∙ swapped (in_run i before) (in_run i run) (covers new i) ∙ ap (λ (b : Bool). in_run i run || b) (sym (splits i));
      free = λ i here. elim (or_cases _ _ (sym (both i) ∙ here)) [
        | inl in_before ↦ in_clear before new i clear in_before
        | inr in_this ↦ still_free (covers old i) (covers new i) (in_run i before) (splits i) (free i in_this)
      ];
      before = λ i next. clear i (omega arith) (omega arith);
      end = omega arith;
      some = omega arith;
    }

pub joined_back : (room : ℕ) (old new : List Run) (run after : Run) (end len : ℕ) → 0 < run.len → IsFree run old → ((i : ℕ) → i + 1 ≡ run.start → covers old i ≡ false) → end ≡ run.start + run.len → in_run end after ≡ true → ((i : ℕ) → covers old i ≡ in_run i after || covers new i) → IsClear after new → after.start + after.len ≤ room
    → len ≡ run.len + after.len → IsJoinedAfter room old new run (record { start = run.start; len = len })
joined_back room old new run after end len some free before ends has splits clear fits is =
    let parts : IsBetween after.start after.len end = within_parts after.start after.len end has in
    let low : after.start ≤ end = parts.low in
    let high : end < after.start + after.len = parts.high in
    let meets : run.start + run.len ≡ after.start = elim (cases_lt after.start end) [
      | inl early ↦
          let here : covers old (end - 1) ≡ true = splits (end - 1) ∙ or_left _ _ (within_from after.start after.len (end - 1) (omega arith) (omega arith)) in
          absurd (both_ways _ (free (end - 1) (within_from run.start run.len (end - 1) (omega arith) (omega arith))) here)
      | inr upto ↦ omega arith
    ] in
    let both : (i : ℕ) → is_within run.start len i ≡ in_run i run || in_run i after = λ i. ap (λ (n : ℕ). is_within run.start n i) is ∙ within_joined run.start run.len after.len after.start i meets in
    record {
      keeps = λ i. ap (λ (b : Bool). b || covers new i) (both i) ∙ regrouped (in_run i run) (in_run i after) (covers new i) ∙ ap (λ (b : Bool). in_run i run || b) (sym (splits i));
      clear = λ i low' high'. elim (cases_lt i run.start) [
        | inl below ↦ still_free (covers old i) (covers new i) (in_run i after) (splits i) (before i (omega arith))
        | inr from ↦ elim (cases_lt i (run.start + run.len)) [
          | inl inside ↦ still_free (covers old i) (covers new i) (in_run i after) (splits i) (free i (within_from run.start run.len i from inside))
          | inr past ↦ clear i (omega arith) (omega arith)
        ]
      ];
      end = omega arith;
      some = omega arith;
    }

-- blocks taken from the run that has the first of them: they end where it does or before, and what is left behind them touches no other run
pub back_clear : (old mid front : List Run) (run : Run) (start len end n m : ℕ) → 0 < len → ((i : ℕ) → is_within start len i ≡ true → covers old i ≡ true) → in_run start run ≡ true → ((i : ℕ) → covers old i ≡ in_run i run || covers mid i) → IsClear run mid → end ≡ start + len → n ≡ start - run.start → m ≡ run.start + run.len - end
    → ((i : ℕ) → covers front i ≡ is_within run.start n i || covers mid i) → IsClear (record { start = end; len = m }) front
back_clear old mid front run start len end n m some all has splits clear ends is rest more i low high =
    let begins : run.start ≤ start = (within_parts run.start run.len start has).low in
    let within : start < run.start + run.len = (within_parts run.start run.len start has).high in
    let past : ℕ = run.start + run.len in
    let fits : end ≤ past = elim (cases_lt past end) [
      | inl short ↦
          let here : covers old past ≡ true = all past (within_from start len past (omega arith) (omega arith)) in
          let gone : covers old past ≡ false = splits past ∙ or_from _ _ (outside run.start run.len past (λ l. omega arith)) (clear past (omega arith) (omega arith)) in
          absurd (both_ways _ gone here)
      | inr upto ↦ upto
    ] in
    more i ∙ or_from _ _ (outside run.start n i (λ l. omega arith)) (clear i (omega arith) (omega arith))
