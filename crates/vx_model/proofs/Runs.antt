-- Histories, one event at a time.
use Rattle.std.proofs.Common.{◌≡◌, List, [], ◌∷◌, ◌++◌, refl}
use Rattle.vx_base.specs.declared.event.Event.{Event}
use Rattle.vx_model.specs.Legal.{World, after, after_all, Allowed, Legal}

pub after_all-append : (w : World) (xs ys : List Event) → after_all w (xs ++ ys) ≡ after_all (after_all w xs) ys
after_all-append w [] ys = refl
after_all-append w (x ∷ xs) ys = after_all-append (after w x) xs ys

-- a legal history may go on by an event that is allowed
pub Legal-push : (w : World) (xs : List Event) (e : Event) → Legal w xs → Allowed (after_all w xs) e → Legal w (xs ++ e ∷ [])
Legal-push w [] e h a = (a, tt)
Legal-push w (x ∷ xs) e h a = (h.0, Legal-push (after w x) xs e h.1 a)
