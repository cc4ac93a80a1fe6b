-- A call that waits, through events and prefixes.
use Rattle.std.proofs.Common.{◌≡◌, ◌+◌, ◌<◌, ℕ, List, [], ◌∷◌, ◌++◌, length, sym, ◌∙◌, arith}
use Rattle.std.proofs.lemmas.List.{length_push}
use Rattle.vx_base.specs.declared.event.Event.{Event}
use Rattle.vx_base.specs.declared.mode.Logging.{Logging}
use Rattle.vx_model.specs.Legal.{World}
use Rattle.vx_bytes.specs.Kept.{Since, SinceRises, Sinces, Serials, Wait, IsFlushed, IsWaiting}
use Rattle.vx_bytes.proofs.Growing.{promises_old, promises_size_old}

module _ (mode : Logging) (o : World) (h : List Event) where
  pub flushed_later : (place : ℕ) (a b : Since) → SinceRises a b → IsFlushed mode o h place a → IsFlushed mode o h place b
  flushed_later place a b rises on = record { size = λ n x. omega (arith, on.size n x, rises.size n); bytes = λ n i x. omega (arith, on.bytes n i x, rises.bytes n i) }

  pub flushed_event : (e : Event) (place : ℕ) (a : Since) → place < length h → IsFlushed mode o h place a → IsFlushed mode o (h ++ e ∷ []) place a
  flushed_event e place a lt on = record { size = λ n x. on.size n (sym (promises_size_old mode o h e n place lt) ∙ x); bytes = λ n i x. on.bytes n i (sym (promises_old mode o h e n i place lt) ∙ x) }

  -- any event, and a settle with it
  pub waiting_event : (e : Event) (since : Sinces) (present : Since) (s : Serials) (w : Wait) → SinceRises since.present present → IsWaiting mode o h since s w → IsWaiting mode o (h ++ e ∷ []) (record since { present = present }) s w
  waiting_event e since present s w rises old = record {
    begun = omega (arith, old.begun, length_push h e);
    known = old.known;
    present = flushed_event e w.place present old.begun (flushed_later w.place since.present present rises old.present);
    closing = λ le. flushed_event e w.place since.closing old.begun (old.closing le);
    committed = λ le. flushed_event e w.place since.committed old.begun (old.committed le);
  }

  -- a call whose flush is over: what it needs is in the open batch, or on the device since it began
  pub waiting_begins : (since : Sinces) (s : Serials) (w : Wait) → w.place < length h → w.serial ≡ s.gathering → s.closing < s.gathering → s.committed < s.gathering → IsFlushed mode o h w.place since.present → IsWaiting mode o h since s w
  waiting_begins since s w lt is later later_committed on = record { begun = lt; known = omega (arith, is); present = on; closing = λ le. absurd (omega (arith, le, is, later)); committed = λ le. absurd (omega (arith, le, is, later_committed)) }

  pub waiting_close : (since : Sinces) (s : Serials) (w : Wait) → IsWaiting mode o h since s w → IsWaiting mode o h (record since { closing = since.present }) (record { committed = s.committed; closing = s.gathering; gathering = s.gathering + 1 }) w
  waiting_close since s w old = record { begun = old.begun; known = omega (arith, old.known); present = old.present; closing = λ le. old.present; committed = old.committed }

  pub waiting_commit : (since : Sinces) (s : Serials) (w : Wait) → IsWaiting mode o h since s w → IsWaiting mode o h (record since { committed = since.closing }) (record s { committed = s.closing }) w
  waiting_commit since s w old = record { begun = old.begun; known = old.known; present = old.present; closing = old.closing; committed = old.closing }
