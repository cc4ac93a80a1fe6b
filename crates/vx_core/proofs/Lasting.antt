-- The last event.
use Rattle.std.proofs.Common.{◌≡◌, ◌+◌, ◌-◌, List, [], ◌∷◌, ◌++◌, length, length-append, Some, refl, ap, ◌∙◌, arith}
use Rattle.std.specs.Prelude.{slice_get}
use Rattle.vx_base.specs.declared.event.Event.{Event}
use Rattle.vx_core.specs.Tracks.{last_event}

at_end : (h : List Event) (e : Event) → slice_get (h ++ e ∷ []) (length h) ≡ Some e
at_end [] e = refl
at_end (x ∷ h) e = at_end h e

pub last_is : (h : List Event) (e : Event) → last_event (h ++ e ∷ []) ≡ Some e
last_is h e = ap (slice_get (h ++ e ∷ [])) (let long : length (h ++ e ∷ []) ≡ length h + length (e ∷ []) = length-append h (e ∷ []) in let place : length (h ++ e ∷ []) - 1 ≡ length h = omega arith in place) ∙ at_end h e
