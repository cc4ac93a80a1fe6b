-- A new file system is well-formed, and so is what a history makes of a well-formed one.
use Rattle.std.proofs.Common.{◌≡◌, ◌≢◌, ℕ, zero, suc, ◌*◌, ◌<◌, ◌≤◌, Bool, true, false, cond, List, [], ◌∷◌, take, Option, Some, None, refl, sym, ap, ◌∙◌, arith, inl, inr}
use Rattle.std.specs.List.{AllByRecursion}
use Rattle.std.specs.Ordering.{nat_cmp}
use Rattle.std.specs.Cmp.Lexicographic.{slice_cmp}
use Rattle.std.specs.FinMap as map
use Rattle.std.proofs.lemmas.Bool.{cases_eq}
use Rattle.vx_base.proofs.Maps.{at_key, at_other}
use Rattle.vx_base.specs.declared.call.Call.{Call}
use Rattle.vx_base.specs.declared.event.Event.{Event}
use Rattle.vx_base.specs.declared.event.Event.TheVariants as event
use Rattle.vx_layout.specs.Places.{Volume}
use Rattle.vx_layout.specs.Supers.{IsSuper}
use Rattle.vx_layout.specs.declared.superblock.Super.{Super}
use Rattle.vx_model.specs.Tree.{Nodes, Node, new_directory}
use Rattle.vx_model.specs.State.{State, Done, fresh_of}
use Rattle.vx_model.specs.Settling.{settle}
use Rattle.vx_model.specs.Step.{is_of_names, step}
use Rattle.vx_model.specs.Legal.{World, is_fault, state_after_step, with_released, after, after_all}
use Rattle.vx_model.specs.Layout.{volume}
use Rattle.vx_model.specs.LaidOut.{IsLaidOut, IsPlain}
use Rattle.vx_model.specs.NameLaws.{names_in, name_count, link_number, HasNoLoops}
use Rattle.vx_wellformed.specs.WellFormed.{IsConsistent, IsWellFormed, HasMode, HasModes}
use Rattle.vx_wellformed.proofs.EntryNames.{none_mean}

-- ---- a new file system

abbrev nodes_fresh : Nodes
nodes_fresh = map.insert map.empty 2 (new_directory 493)

fresh_other : (k : ℕ) → k ≢ 2 → map.get nodes_fresh k ≡ None
fresh_other k ne = at_other map.empty 2 (new_directory 493) k ne ∙ map.get-empty nat_cmp k

root_names : (i : ℕ) → names_in i (Some (new_directory 493)) ≡ 0
root_names i = none_mean i (map.entries (map.empty {X = ℕ} {R = slice_cmp nat_cmp})) (sym (map.len-entries (map.empty {X = ℕ} {R = slice_cmp nat_cmp})) ∙ map.len-empty (slice_cmp nat_cmp) ℕ)

fresh_names : (i k : ℕ) → names_in i (map.get nodes_fresh k) ≡ 0
fresh_names i k = elim (cases_eq k 2) [
  | inl e ↦ ap (λ (x : ℕ). names_in i (map.get nodes_fresh x)) e ∙ ap (names_in i) (at_key map.empty 2 (new_directory 493)) ∙ root_names i
  | inr ne ↦ ap (names_in i) (fresh_other k ne)
]

no_names : (i n : ℕ) → name_count nodes_fresh n i ≡ 0
unfolding name_count
no_names i zero = refl
no_names i (suc n) = omega (arith, fresh_names i n, no_names i n)

fresh_link : (i : ℕ) → link_number i (map.get nodes_fresh i) ≡ 0
fresh_link i = elim (cases_eq i 2) [
  | inl e ↦ ap (λ (x : ℕ). link_number x (map.get nodes_fresh x)) e ∙ ap (link_number 2) (at_key map.empty 2 (new_directory 493))
  | inr ne ↦ ap (link_number i) (fresh_other i ne)
]

fresh_low : (units k : ℕ) (node : Node) → 1 ≤ units → map.get nodes_fresh k ≡ Some node → k < 128 * units
fresh_low units k node some is = elim (cases_eq k 2) [
  | inl e ↦ omega arith
  | inr ne ↦ let c : None ≡ Some node = sym (fresh_other k ne) ∙ is in absurd cc
]

pub fresh_well_formed : (v : Super) (limit device_sectors : ℕ) → IsSuper v → IsLaidOut (fresh_of v limit device_sectors) → IsPlain (fresh_of v limit device_sectors) → HasNoLoops nodes_fresh → IsWellFormed (fresh_of v limit device_sectors)
fresh_well_formed v limit device_sectors is laid plain none = record {
  laid_out = laid;
  plain = plain;
  names = λ n. tt;
  links = record { low = λ k node there. fresh_low v.units k node is.units_low there; links = λ i. no_names i (128 * v.units) ∙ sym (fresh_link i) };
  no_loops = none;
}

-- ---- histories

kept_after : (P : State → Type 0) (s : State) (place session : ℕ) (c : Call) (o : Option Done) → step s place session c ≡ o → P s → ((done : Done) → step s place session c ≡ Some done → P done.state)
    → P (state_after_step s o)
kept_after P s place session c None is old new = old
kept_after P s place session c (Some done) is old new = new done is

kept_unless : (P : State → Type 0) (s t : State) (b : Bool) → P s → P t → P (cond b s t)
kept_unless P s t true old new = old
kept_unless P s t false old new = new

module _ (steps : (s : State) (place session : ℕ) (c : Call) (done : Done) → IsWellFormed s → is_of_names c ≡ true → HasMode c → step s place session c ≡ Some done → IsWellFormed done.state)
    (releases : (s : State) (upto : ℕ) → IsWellFormed s → IsWellFormed (with_released s upto)) where
  kept_event : (w : World) (e : Event) → HasModes e → IsWellFormed w.state → IsWellFormed (after w e).state
  kept_event w (event.Do at session line c reply) modes h =
      kept_unless IsWellFormed w.state (state_after_step w.state (step w.state w.next session c)) (is_fault reply) h
      (kept_after IsWellFormed w.state w.next session c (step w.state w.next session c) refl h (λ done is. steps w.state w.next session c done h modes.0 modes.1 is))
  kept_event w (event.Settle at ino size) modes h = absurd modes
  kept_event w (event.Release at upto) modes h = releases w.state upto h
  kept_event w _ modes h = h

  pub kept_all : (w : World) (es : List Event) → IsWellFormed w.state → AllByRecursion HasModes es → IsWellFormed (after_all w es).state
  kept_all w [] h modes = h
  kept_all w (e ∷ es) h modes = kept_all (after w e) es (kept_event w e modes.0 h) modes.1

-- ---- states that are known to be laid out

laid_step : (s : State) (place session : ℕ) (c : Call) (o : Option Done) → step s place session c ≡ o → IsConsistent s → IsLaidOut (state_after_step s o)
    → ((done : Done) → step s place session c ≡ Some done → IsLaidOut done.state → IsConsistent done.state) → IsConsistent (state_after_step s o)
laid_step s place session c None is old laid new = old
laid_step s place session c (Some done) is old laid new = new done is laid

laid_unless : (s t : State) (b : Bool) → IsConsistent s → (IsLaidOut t → IsConsistent t) → IsLaidOut (cond b s t) → IsConsistent (cond b s t)
laid_unless s t true old new laid = old
laid_unless s t false old new laid = new laid

module _ (steps : (s : State) (place session : ℕ) (c : Call) (done : Done) → IsConsistent s → IsLaidOut done.state → step s place session c ≡ Some done → IsConsistent done.state)
    (settles : (s : State) (place ino : ℕ) → IsConsistent s → IsConsistent (settle s place ino)) (releases : (s : State) (upto : ℕ) → IsConsistent s → IsConsistent (with_released s upto)) where
  pub laid_event : (w : World) (e : Event) → IsConsistent w.state → IsLaidOut (after w e).state → IsConsistent (after w e).state
  laid_event w (event.Do at session line c reply) h laid =
      laid_unless w.state (state_after_step w.state (step w.state w.next session c)) (is_fault reply) h
      (λ there. laid_step w.state w.next session c (step w.state w.next session c) refl h there (λ done is held. steps w.state w.next session c done h held is)) laid
  laid_event w (event.Settle at ino size) h laid = settles w.state w.next ino h
  laid_event w (event.Release at upto) h laid = releases w.state upto h
  laid_event w _ h laid = h

-- ---- the volume stays

module _ (same : (s : State) (place session : ℕ) (c : Call) (done : Done) → step s place session c ≡ Some done → volume done.state.layout ≡ volume s.layout)
    (same_settled : (s : State) (place ino : ℕ) → volume (settle s place ino).layout ≡ volume s.layout) where
  abbrev Same : Volume → State → Type 0
  Same v s = volume s.layout ≡ v

  volume_event : (w : World) (e : Event) → volume (after w e).state.layout ≡ volume w.state.layout
  volume_event w (event.Do at session line c reply) =
      kept_unless (Same (volume w.state.layout)) w.state (state_after_step w.state (step w.state w.next session c)) (is_fault reply) refl
      (kept_after (Same (volume w.state.layout)) w.state w.next session c (step w.state w.next session c) refl refl (λ done is. same w.state w.next session c done is))
  volume_event w (event.Settle at ino size) = same_settled w.state w.next ino
  volume_event w (event.Release at upto) = refl
  volume_event w _ = refl

  pub volume_all : (w : World) (es : List Event) → volume (after_all w es).state.layout ≡ volume w.state.layout
  volume_all w [] = refl
  volume_all w (e ∷ es) = volume_all (after w e) es ∙ volume_event w e

pub modes_take : (k : ℕ) (es : List Event) → AllByRecursion HasModes es → AllByRecursion HasModes (take k es)
modes_take zero es h = tt
modes_take (suc k) [] h = tt
modes_take (suc k) (e ∷ es) h = (h.0, modes_take k es h.1)
