-- Answers stand behind their calls.
use Rattle.std.proofs.Common.{◌≡◌, ◌<◌, ℕ, true, not, List, [], ◌∷◌, length, inl, inr, arith}
use Rattle.std.specs.Prelude.{All, ◌==◌}
use Rattle.std.specs.List.{list_any}
use Rattle.std.proofs.lemmas.Bool.{and_parts, or_cases, eqb-true}
use Rattle.std.proofs.lemmas.List.Elements.{recursion_from_All}
use Rattle.std.specs.List.{AllByRecursion}
use Rattle.vx_base.specs.declared.event.Event.{Event}
use Rattle.vx_base.specs.declared.event.Event.TheVariants as event
use Rattle.vx_model.specs.Allowed.{is_refusal}
use Rattle.vx_model.specs.AllowedLaws.{IsPlaced}
use Rattle.vx_bytes.specs.Promises.{answers}
use Rattle.vx_bytes.proofs.Growing.{AreAnswered}

-- what answers a call stands behind it
answers_placed : (places i : ℕ) (e : Event) → IsPlaced places e → answers i e ≡ true → i < places
answers_placed places i (event.Ret at place answer) is on =
    let both : ((place == i) ≡ true) × (not (is_refusal answer) ≡ true) = and_parts (place == i) (not (is_refusal answer)) on in
    let same : place ≡ i = eqb-true place i both.0 in
    omega (arith, is, same)
answers_placed places i (event.Do at session line c reply) is on = absurd cc
answers_placed places i (event.Settle at ino size) is on = absurd cc
answers_placed places i (event.Release at upto) is on = absurd cc
answers_placed places i (event.MoveTake at place ino) is on = absurd cc
answers_placed places i (event.MoveSwitch at place ino from to) is on = absurd cc
answers_placed places i (event.MoveGive at place ino cause) is on = absurd cc
answers_placed places i (event.Bar at place units) is on = absurd cc
answers_placed places i (event.Resized at place units) is on = absurd cc
answers_placed places i (event.Unbar at place cause) is on = absurd cc
answers_placed places i (event.Stopped at) is on = absurd cc
answers_placed places i (event.Unmounted at) is on = absurd cc

any_placed : (places i : ℕ) (events : List Event) → AllByRecursion (IsPlaced places) events → list_any (answers i) events ≡ true → i < places
any_placed places i [] each on = absurd cc
any_placed places i (e ∷ es) each on = elim (or_cases (answers i e) (list_any (answers i) es) on) [
  | inl here ↦ answers_placed places i e each.0 here
  | inr later ↦ any_placed places i es each.1 later
]

pub are_answered : (h : List Event) → All (IsPlaced (length h)) h → AreAnswered h
are_answered h placed i on = any_placed (length h) i h (recursion_from_All (IsPlaced (length h)) h placed) on
