use Rattle.std.proofs.Common.{◌≡◌, ℕ, List, true, Some, subst, sym, take, arith, refl}
use Rattle.std.specs.List.{AllByRecursion}
use Rattle.vx_base.specs.declared.call.Call.{Call}
use Rattle.vx_base.specs.declared.event.Event.{Event}
use Rattle.vx_layout.specs.Places.{Volume, sectors_of}
use Rattle.vx_layout.specs.Supers.{volume_of}
use Rattle.vx_sound.specs.Sound.{IsSound}
use Rattle.vx_model.specs.Layout.{volume}
use Rattle.vx_model.specs.State.{State, Done, fresh_of}
use Rattle.vx_model.specs.Settling.{settle}
use Rattle.vx_model.specs.Step.{step}
use Rattle.vx_model.specs.Legal.{World, opening, after_all}
use Rattle.vx_model.specs.Images.{Stands}
use Rattle.vx_model.specs.Contents.{parsed_of}
use Rattle.vx_wellformed.specs.WellFormed.{IsWellFormed, HasModes}
use Rattle.vx_wellformed.proofs.Histories.{volume_all, modes_take}
use Rattle.vx_wellformed.proofs.laws.history_sound.Goals as goal

pub returns : goal.returns
returns c =
    let kept = c.well_formed_laws.ensures in
    let stays : (s : State) (place session : ℕ) (call : Call) (done : Done) → step s place session call ≡ Some done → volume done.state.layout ≡ volume s.layout = λ s place session call done is.
    (c.waiting_laws.ensures.step s place session call done is).same_volume in
    let settled : (s : State) (place ino : ℕ) → volume (settle s place ino).layout ≡ volume s.layout = λ s place ino. (c.waiting_laws.ensures.settled s place ino).same_volume in
    let at_volume : (s : State) (v : Volume) (image : ℕ → List ℕ) → IsWellFormed s → volume s.layout ≡ v → Stands v (parsed_of s) image → IsSound true v image = λ s v image w same stands.
    let well = c.state_sound.ensures.consistent s w in
    subst (λ (x : Volume). IsSound true x image) same (c.state_sound.ensures.strict s image well.0 well.1 (subst (λ (x : Volume). Stands x (parsed_of s) image) (sym same) stands)) in
    let come : (w : World) (events : List Event) (image : ℕ → List ℕ) → IsWellFormed w.state → AllByRecursion HasModes events → Stands (volume w.state.layout) (parsed_of (after_all w events).state) image
    → IsSound true (volume w.state.layout) image = λ w events image well modes.
    at_volume (after_all w events).state (volume w.state.layout) image (kept.history w events well modes) (volume_all stays settled w events) in
    record {
      formatted = λ v image is formatted.
          at_volume (fresh_of v 1 (sectors_of (volume_of v))) (volume_of v) image (kept.fresh v 1 (sectors_of (volume_of v)) is (omega arith) (omega arith)) refl
          (c.fresh_reads.ensures.stands v 1 (sectors_of (volume_of v)) image is formatted);
      fresh = λ v limit device_sectors at events image is few room modes. come (opening at (fresh_of v limit device_sectors)) events image (kept.fresh v limit device_sectors is few room) modes;
      part = λ w events k image well modes. come w (take k events) image well (modes_take k events modes);
    }
