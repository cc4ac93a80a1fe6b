-- What a crash may leave in a sector other than the head sector, while the head sector is written.
use Rattle.std.proofs.Common.{◌≢◌, ℕ, List, sym, subst, inl, inr}
use Rattle.std.specs.Prelude.{option_map, Option, Some, None, IfSome}
use Rattle.vx_dev.specs.declared.device.Operation.{Operation}
use Rattle.vx_dev.specs.declared.device.Operation.TheVariants.{Put, Barrier}
use Rattle.vx_dev.specs.Tape.{Tape, State, Did, DidNothing, Failed, Writes, did, tried, MayHold}
use Rattle.vx_dev.specs.Laws.{TapeLaws}
use Rattle.vx_dev.specs.Moments.{Told, Passed, Shows}
use Rattle.vx_dev.proofs.Claims.{passed_did, passed_still, told_weaker}

did_told : (op : Operation) (a b : State) (P : Tape → Type 0) → Did op a b → ((t : Tape) → P t → P (did op t)) → Told a P → Told b P
did_told op a b P d f h = subst (λ (o : Option Tape). IfSome o P) (sym d.told) (by_cases a.told h)
  where
    by_cases : (o : Option Tape) → IfSome o P → IfSome (option_map (did op) o) P
    by_cases None k = tt
    by_cases (Some t) k = f t k

module _ (tape : TapeLaws) (s : ℕ) (Q : List ℕ → Type 0) (other : s ≢ 2) where
  abbrev pub Keeps : Tape → Type 0
  Keeps t = (x : List ℕ) → MayHold t s x → Q x

  abbrev pub There : (ℕ → List ℕ) → Type 0
  There image = Q (image s)

  shown : (d : State) → Told d Keeps → Told d (Shows There)
  shown d h = told_weaker d Keeps (Shows There) (λ t k image is. k (image s) (is s)) h

  keeps_write : (op : Operation) (bytes : List ℕ) (t : Tape) → Writes op 2 bytes → Keeps t → Keeps (did op t)
  keeps_write op bytes t w k x may = elim (w.may t s x may) [ inl before ↦ k x before | inr here ↦ absurd (other here.0) ]

  -- ---- single operations

  pub still : (a b : State) → DidNothing a b → Told a Keeps → Passed There a b
  still a b nothing h = passed_still There a b nothing.told (shown a h)

  pub after_barrier : (a b : State) → Did Barrier a b → Told a Keeps → Told b Keeps
  after_barrier a b d h = did_told Barrier a b Keeps d (λ t k x may. k x (tape.barrier_adds t s x may)) h

  pub barrier_step : (a b : State) → Did Barrier a b → Told a Keeps → Passed There a b
  barrier_step a b d h = passed_did There Barrier a b d (shown a h) (shown b (after_barrier a b d h))

  pub after_head : (bytes : List ℕ) (a b : State) → Did (Put 2 bytes) a b → Told a Keeps → Told b Keeps
  after_head bytes a b d h = did_told (Put 2 bytes) a b Keeps d (λ t k. keeps_write (Put 2 bytes) bytes t (tape.put_writes 2 bytes) k) h

  pub head_step : (bytes : List ℕ) (a b : State) → Did (Put 2 bytes) a b → Told a Keeps → Passed There a b
  head_step bytes a b d h = passed_did There (Put 2 bytes) a b d (shown a h) (shown b (after_head bytes a b d h))

  pub head_failed : (bytes : List ℕ) (a b : State) → Failed 2 bytes a b → Told a Keeps → Passed There a b
  head_failed bytes a b failed h = elim failed.did [
    | inl d ↦ passed_did There (tried 2 bytes) a b d (shown a h) (shown b (did_told (tried 2 bytes) a b Keeps d (λ t k. keeps_write (tried 2 bytes) bytes t (tape.failed_writes 2 bytes) k) h))
    | inr nothing ↦ still a b nothing h
  ]
