-- What a sink has taken of a text that is put in pieces.
use Rattle.std.specs.Prelude.{◌≡◌, ℕ, ◌≤◌, List, ◌++◌, MatchResult, Result}
use Rattle.std.specs.declared.option.Option.{Option}
use Rattle.std.specs.Io.KnownBytes.{Appends}
use Rattle.vx_base.specs.Faults.{Rose}

-- known bytes grow by the beginning of a text
pub record AppendsPrefix (old new : Option (List ℕ)) (text : List ℕ) : Type 0 where
  pub front : List ℕ
  pub rest : List ℕ
  pub joined : text ≡ front ++ rest
  pub appended : Appends old new front

-- of the bytes that waited and then the text, the sink took a first part, and the others wait
pub record PutsAll (old new : Option (List ℕ)) (faults after : ℕ) (waiting left text : List ℕ) : Type 0 where
  pub taken : List ℕ
  pub joined : waiting ++ text ≡ taken ++ left
  pub appended : Appends old new taken
  pub fine : after ≡ faults

-- of the bytes that waited and then the text, the sink took a first part, and then a write failed
pub record PutsPart (old new : Option (List ℕ)) (faults after : ℕ) (waiting text : List ℕ) : Type 0 where
  pub taken : List ℕ
  pub lost : List ℕ
  pub joined : waiting ++ text ≡ taken ++ lost
  pub appended : Appends old new taken
  pub later : faults ≤ after
  pub rose : Rose faults after

abbrev pub PutsOutcome : {T E : Type 0} → (old new : Option (List ℕ)) (faults after : ℕ) (waiting left : List ℕ) → Result T E → List ℕ → Type 0
PutsOutcome old new faults after waiting left result text =
    MatchResult result (λ _. PutsAll old new faults after waiting left text) (λ _. PutsPart old new faults after waiting text)

-- a call put the text behind the bytes that waited, or broke off; a sink's state says what it has taken and how many of its writes failed
abbrev pub Puts : {S T E : Type 0} → (taken : S → Option (List ℕ)) (fault_count : S → ℕ) (old new : S) (waiting left : List ℕ) → Result T E → List ℕ → Type 0
Puts taken fault_count old new waiting left result text =
    PutsOutcome (taken old) (taken new) (fault_count old) (fault_count new) waiting left result text
