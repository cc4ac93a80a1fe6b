-- The lines of a script stay what they are while they move into the history.
use Rattle.std.proofs.Common.{◌≡◌, ℕ, ◌+◌, ◌<◌, ◌≤◌, ◌==◌, ◌&&◌, nat_lt, drop, set, get_or, map, List, [], ◌∷◌, ◌++◌, length, Bool, true, false, Option, Some, None, refl, sym, ap, subst, ◌∙◌, append_assoc, append-nil, arith, inl, inr, zero, suc, add-one}
use Rattle.std.specs.Prelude.{slice_get, unwrap_or, if◌then◌else◌}
use Rattle.std.specs.List.{filter_map, range_with_len}
use Rattle.std.proofs.Math.Seq.{drop-cons}
use Rattle.std.proofs.lemmas.Bool.{cases_lt, eqb-true, eq-eqb}
use Rattle.std.proofs.lemmas.Bool.Decides.{nat_tests}
use Rattle.std.proofs.lemmas.List.{drop-set-lt, length-set, get_or-set_same, get_or-set_other}
use Rattle.std.proofs.lemmas.List.Elements.{filter_map-append}
use Rattle.std.proofs.lemmas.List.FromFn.{length-map-range_with_len, get_or-map-range_with_len}
use Rattle.std.proofs.lemmas.Option.{slice_get_within, slice_get_past, get_or_from_slice_get, unwrap_or-slice_get}
use Rattle.vx_base.specs.declared.call.Call.{Call}
use Rattle.vx_base.specs.declared.call.Call.TheVariants as call
use Rattle.vx_base.specs.declared.event.Event.{Event}
use Rattle.vx_base.specs.declared.event.Event.TheVariants as event
use Rattle.vx_base.specs.declared.reply.Reply.{Reply}
use Rattle.vx_base.specs.Lines.{lines_of, line_after}
use Rattle.vx_mount.specs.GrowthLaws.{GrowthLaws, is_other, one_if}
use Rattle.vx_mount.specs.Runs.{line_call, calls_begun}
use Rattle.vx_mount.specs.Sessions.{begun}
use Rattle.vx_core.specs.Lines.{lines_of_session, script_lines}

-- ---- the lines of one session

pub length_script : (lists : List (List Call)) (h : List Event) → length (script_lines lists h) ≡ length lists
unfolding script_lines
length_script lists h = length-map-range_with_len (lines_of_session lists h) 0 (length lists)

pub lines_of_get_or : (lists : List (List Call)) (s : ℕ) → lines_of lists s ≡ get_or lists s []
unfolding lines_of
lines_of_get_or lists s = unwrap_or-slice_get lists s []

pub script_at : (lists : List (List Call)) (h : List Event) (s : ℕ) → s < length lists → lines_of (script_lines lists h) s ≡ lines_of_session lists h s
unfolding script_lines
script_at lists h s lt =
    lines_of_get_or (map (lines_of_session lists h) (range_with_len 0 (length lists))) s
    ∙ get_or-map-range_with_len (lines_of_session lists h) 0 (length lists) s s [] lt (omega arith)

pub no_lines : (lists : List (List Call)) (s : ℕ) → length lists ≤ s → lines_of lists s ≡ []
unfolding lines_of
no_lines lists s ge = ap (λ (o : Option (List Call)). unwrap_or o []) (slice_get_past lists s ge)

slice_get_behind : {X : Type 0} (xs ys : List X) → slice_get (xs ++ ys) (length xs) ≡ slice_get ys 0
slice_get_behind [] ys = refl
slice_get_behind (x ∷ xs) ys = slice_get_behind xs ys

slice_get_dropped : {X : Type 0} (n : ℕ) (xs : List X) → slice_get (drop n xs) 0 ≡ slice_get xs n
slice_get_dropped zero xs = refl
slice_get_dropped (suc n) [] = refl
slice_get_dropped (suc n) (x ∷ xs) = slice_get_dropped n xs

module _ (laws : GrowthLaws) where
  -- the line that a session is to begin next is in the lists still
  pub next_line : (lists : List (List Call)) (h : List Event) (s : ℕ) → line_after (script_lines lists h) s (begun s h) ≡ line_after lists s (begun s h)
  unfolding line_after
  next_line lists h s = elim (cases_lt s (length lists)) [
    | inl lt ↦
        ap (λ (l : List Call). slice_get l (begun s h)) (script_at lists h s lt)
        ∙ subst (λ n. slice_get (calls_begun s h ++ drop (begun s h) (lines_of lists s)) n ≡ slice_get (drop (begun s h) (lines_of lists s)) 0) (laws.counted s h)
        (slice_get_behind (calls_begun s h) (drop (begun s h) (lines_of lists s)))
        ∙ slice_get_dropped (begun s h) (lines_of lists s)
    | inr ge ↦
        let long : length (script_lines lists h) ≡ length lists = length_script lists h in
        ap (λ (l : List Call). slice_get l (begun s h)) (no_lines (script_lines lists h) s (omega arith) ∙ sym (no_lines lists s ge))
  ]

  -- ---- they stay the same

  same_script : (lists later : List (List Call)) (h k : List Event) → length later ≡ length lists → ((t : ℕ) → lines_of_session later k t ≡ lines_of_session lists h t)
      → script_lines later k ≡ script_lines lists h
  unfolding script_lines
  same_script lists later h k long each =
      let same : lines_of_session later k ≡ lines_of_session lists h = λ i t. each t i in
      ap (λ (f : ℕ → List Call). map f (range_with_len 0 (length later))) same ∙ ap (λ n. map (lines_of_session lists h) (range_with_len 0 n)) long

  calls_more : (t : ℕ) (h : List Event) (e : Event) → calls_begun t (h ++ e ∷ []) ≡ calls_begun t h ++ filter_map (line_call t) (e ∷ [])
  unfolding calls_begun
  calls_more t h e = filter_map-append (line_call t) h (e ∷ [])

  -- an event that begins no line
  same_part : (lists : List (List Call)) (h : List Event) (e : Event) (t : ℕ) → filter_map (line_call t) (e ∷ []) ≡ [] → begun t (h ++ e ∷ []) ≡ begun t h → lines_of_session lists (h ++ e ∷ []) t ≡ lines_of_session lists h t
  same_part lists h e t none same =
      let calls : calls_begun t (h ++ e ∷ []) ≡ calls_begun t h = calls_more t h e ∙ ap (λ (l : List Call). calls_begun t h ++ l) none ∙ append-nil (calls_begun t h) in
      ap (λ (l : List Call). l ++ drop (begun t (h ++ e ∷ [])) (lines_of lists t)) calls ∙ ap (λ n. calls_begun t h ++ drop n (lines_of lists t)) same

  other_call : (t : ℕ) (e : Event) → is_other e ≡ true → filter_map (line_call t) (e ∷ []) ≡ []
  other_call t (event.Do at session line c reply) h = absurd (cc)
  other_call t _ h = refl

  pub script_other : (lists : List (List Call)) (h : List Event) (e : Event) → is_other e ≡ true → script_lines lists (h ++ e ∷ []) ≡ script_lines lists h
  script_other lists h e other = same_script lists lists h (h ++ e ∷ []) refl (λ t. same_part lists h e t (other_call t e other) (laws.begun_other t h e other))

  pub script_ret : (lists : List (List Call)) (h : List Event) (at place : ℕ) (answer : Reply) → script_lines lists (h ++ event.Ret at place answer ∷ []) ≡ script_lines lists h
  script_ret lists h at place answer = same_script lists lists h (h ++ event.Ret at place answer ∷ []) refl (λ t. same_part lists h (event.Ret at place answer) t refl (laws.begun_ret t h at place answer))

  -- a line that moves into the history
  by_choice : (b : Bool) (c : Call) → filter_map (λ (x : Bool). if x then Some c else None) (b ∷ []) ≡ (if b then c ∷ [] else [])
  by_choice true c = refl
  by_choice false c = refl

  moved_list : (l : List Call) (n : ℕ) (c : Call) → slice_get l n ≡ Some c → c ∷ drop (n + 1) (set l n call.Sync) ≡ drop n l
  moved_list l n c is =
      ap (λ (k : List Call). c ∷ k) (drop-set-lt (n + 1) l n call.Sync (omega arith))
      ∙ sym (drop-cons l n c (slice_get_within l n c is) ∙ ap (λ x. x ∷ drop (suc n) l) (get_or_from_slice_get l n c c is) ∙ ap (λ m. c ∷ drop m l) (sym (add-one n)))

  moved_part : (lists : List (List Call)) (h : List Event) (at s line : ℕ) (c : Call) (reply : Reply) → 0 < line → line_after lists s (begun s h) ≡ Some c → s < length lists
      → (t : ℕ) (b : Bool) → (s == t) ≡ b
      → lines_of_session (set lists s (set (lines_of lists s) (begun s h) call.Sync)) (h ++ event.Do at s line c reply ∷ []) t ≡ lines_of_session lists h t
  unfolding line_after
  moved_part lists h at s line c reply lt is inside t true e =
      let later = set lists s (set (lines_of lists s) (begun s h) call.Sync) in
      let k = h ++ event.Do at s line c reply ∷ [] in
      let mine : s ≡ t = eqb-true s t e in
      let numbered : nat_lt 0 line ≡ true = grind (arith, nat_tests) in
      let both : (s == t && nat_lt 0 line) ≡ true = rw (e, numbered) refl in
      let counts : begun t k ≡ begun t h + 1 = laws.begun_do t h at s line c reply ∙ ap (λ b. begun t h + one_if b) both in
      let calls : calls_begun t k ≡ calls_begun t h ++ c ∷ [] =
      calls_more t h (event.Do at s line c reply) ∙ ap (λ (l : List Call). calls_begun t h ++ l) (by_choice (s == t && nat_lt 0 line) c ∙ ap (λ b. if b then c ∷ [] else []) both) in
      let there : lines_of later t ≡ set (lines_of lists t) (begun t h) call.Sync =
      subst (λ x. lines_of later x ≡ set (lines_of lists x) (begun x h) call.Sync) mine
      (lines_of_get_or later s ∙ get_or-set_same lists s (set (lines_of lists s) (begun s h) call.Sync) [] inside) in
      let first : slice_get (lines_of lists t) (begun t h) ≡ Some c = subst (λ x. slice_get (lines_of lists x) (begun x h) ≡ Some c) mine is in
      ap (λ (l : List Call). l ++ drop (begun t k) (lines_of later t)) calls
      ∙ ap (λ n. (calls_begun t h ++ c ∷ []) ++ drop n (lines_of later t)) counts
      ∙ ap (λ (l : List Call). (calls_begun t h ++ c ∷ []) ++ drop (begun t h + 1) l) there
      ∙ append_assoc (calls_begun t h) (c ∷ []) (drop (begun t h + 1) (set (lines_of lists t) (begun t h) call.Sync))
      ∙ ap (λ (l : List Call). calls_begun t h ++ l) (moved_list (lines_of lists t) (begun t h) c first)
  moved_part lists h at s line c reply lt is inside t false e =
      let later = set lists s (set (lines_of lists s) (begun s h) call.Sync) in
      let k = h ++ event.Do at s line c reply ∷ [] in
      let none : (s == t && nat_lt 0 line) ≡ false = rw e refl in
      let other : t ≡ s → ⊥ = λ same. (let yes : (s == t) ≡ true = eq-eqb s t (sym same) in absurd (cc)) in
      let there : lines_of later t ≡ lines_of lists t =
      lines_of_get_or later t ∙ get_or-set_other lists s t (set (lines_of lists s) (begun s h) call.Sync) [] other ∙ sym (lines_of_get_or lists t) in
      ap (λ (l : List Call). calls_begun t k ++ drop (begun t k) l) there
      ∙ same_part lists h (event.Do at s line c reply) t (by_choice (s == t && nat_lt 0 line) c ∙ ap (λ b. if b then c ∷ [] else []) none)
      (laws.begun_do t h at s line c reply ∙ ap (λ b. begun t h + one_if b) none ∙ omega arith)

  pub script_do : (lists : List (List Call)) (h : List Event) (at s line : ℕ) (c : Call) (reply : Reply) → 0 < line → line_after lists s (begun s h) ≡ Some c → s < length lists
      → script_lines (set lists s (set (lines_of lists s) (begun s h) call.Sync)) (h ++ event.Do at s line c reply ∷ []) ≡ script_lines lists h
  script_do lists h at s line c reply lt is inside =
      same_script lists (set lists s (set (lines_of lists s) (begun s h) call.Sync)) h (h ++ event.Do at s line c reply ∷ []) (length-set lists s (set (lines_of lists s) (begun s h) call.Sync))
      (λ t. moved_part lists h at s line c reply lt is inside t (s == t) refl)
