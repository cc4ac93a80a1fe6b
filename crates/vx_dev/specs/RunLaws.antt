-- How runs of operations grow and end, and what they leave.
use Rattle.std.specs.Prelude.{◌≡◌, ◌<◌, ℕ, List, [], ◌∷◌, ◌++◌, length, take, get_or}
use Rattle.vx_dev.specs.declared.device.Operation.{Operation}
use Rattle.vx_dev.specs.declared.device.Operation.TheVariants.{Put}
use Rattle.vx_dev.specs.Tape.{Tape, State, Did, DidNothing, Failed, Settles}
use Rattle.vx_dev.specs.Runs.{did_all, Ran, BrokeOff, puts}

pub record RunLaws : Type 0 where
  pub none : (d : State) → Ran [] d d
  pub more : (ops : List Operation) (op : Operation) (old mid new : State) → Ran ops old mid → Did op mid new → new.size ≡ mid.size → Ran (ops ++ op ∷ []) old new
  pub nothing : (ops : List Operation) (old mid new : State) → Ran ops old mid → DidNothing mid new → new.size ≡ mid.size → Ran ops old new
  -- the writes before number k ran, and then that one failed
  pub broke : (writes : List (ℕ × List ℕ)) (k : ℕ) (w : ℕ × List ℕ) (old mid new : State) → k < length writes → get_or writes k w ≡ w
      → Ran (puts (take k writes)) old mid → mid.doubt ≡ old.doubt → Failed w.0 w.1 mid new → new.size ≡ mid.size → BrokeOff writes old new
  pub push : (writes : List (ℕ × List ℕ)) (w : ℕ × List ℕ) → puts (writes ++ w ∷ []) ≡ puts writes ++ Put w.0 w.1 ∷ []
  -- right contents written again leave what is right
  pub settles : (contents : ℕ → List ℕ) (writes : List (ℕ × List ℕ)) (s : ℕ) → ((k : ℕ) (d : ℕ × List ℕ) → k < length writes → (get_or writes k d).1 ≡ contents (get_or writes k d).0)
      → (t : Tape) → Settles t s (contents s) → Settles (did_all (puts writes) t) s (contents s)
