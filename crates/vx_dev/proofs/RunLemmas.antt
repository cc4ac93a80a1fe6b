-- Runs of operations.
use Rattle.std.proofs.Common.{◌≡◌, ◌+◌, ◌<◌, ℕ, zero, suc, List, [], ◌∷◌, ◌++◌, length, take, get_or, refl, sym, ◌∙◌, ap, subst, inl, inr, ⊎_elim, arith, append_assoc, length-append}
use Rattle.std.specs.Prelude.{option_map, Option, Some, None}
use Rattle.std.proofs.lemmas.Bool.{cases_eq}
use Rattle.std.proofs.lemmas.List.{append-nil}
use Rattle.vx_dev.specs.declared.device.Operation.{Operation}
use Rattle.vx_dev.specs.declared.device.Operation.TheVariants.{Put}
use Rattle.vx_dev.specs.Tape.{Tape, State, Did, DidNothing, Failed, did, Settles}
use Rattle.vx_dev.specs.Runs.{did_all, Ran, puts, BrokeOff}
use Rattle.vx_dev.proofs.Tapes.{settles_put, settles_put_other}

pub length-puts : (writes : List (ℕ × List ℕ)) → length (puts writes) ≡ length writes
length-puts [] = refl
length-puts (w ∷ writes) = ap suc (length-puts writes)

pub puts-push : (writes : List (ℕ × List ℕ)) (w : ℕ × List ℕ) → puts (writes ++ w ∷ []) ≡ puts writes ++ Put w.0 w.1 ∷ []
puts-push [] w = refl
puts-push (v ∷ writes) w = ap (λ (l : List Operation). Put v.0 v.1 ∷ l) (puts-push writes w)

pub take-puts : (k : ℕ) (writes : List (ℕ × List ℕ)) → take k (puts writes) ≡ puts (take k writes)
take-puts zero writes = refl
take-puts (suc k) [] = refl
take-puts (suc k) (w ∷ writes) = ap (λ (l : List Operation). Put w.0 w.1 ∷ l) (take-puts k writes)

-- nothing done yet
pub ran_none : (d : State) → Ran [] d d
ran_none d = record { told = same d.told; count = omega arith; size = refl }
  where
    same : (o : Option Tape) → o ≡ option_map (did_all []) o
    same None = refl
    same (Some t) = ap (λ (ops : List Operation). Some (record { start = t.start; ops = ops })) (sym (append-nil t.ops))

-- one operation more
pub ran_more : (ops : List Operation) (op : Operation) (old mid new : State) → Ran ops old mid → Did op mid new → new.size ≡ mid.size → Ran (ops ++ op ∷ []) old new
ran_more ops op old mid new ran more size = record {
  told = more.told ∙ ap (option_map (did op)) ran.told ∙ both old.told;
  count = omega (arith, more.count, ran.count, length-append ops (op ∷ []));
  size = size ∙ ran.size;
}
  where
    both : (o : Option Tape) → option_map (did op) (option_map (did_all ops) o) ≡ option_map (did_all (ops ++ op ∷ [])) o
    both None = refl
    both (Some t) = ap (λ (l : List Operation). Some (record { start = t.start; ops = l })) (append_assoc t.ops ops (op ∷ []))

pub ran_nothing : (ops : List Operation) (old mid new : State) → Ran ops old mid → DidNothing mid new → new.size ≡ mid.size → Ran ops old new
ran_nothing ops old mid new ran none size = record { told = none.told ∙ ran.told; count = none.count ∙ ran.count; size = size ∙ ran.size }

-- a write of the list fails
pub broke_off : (writes : List (ℕ × List ℕ)) (k : ℕ) (w : ℕ × List ℕ) (old mid new : State) → k < length writes → get_or writes k w ≡ w → Ran (puts (take k writes)) old mid → mid.doubt ≡ old.doubt → Failed w.0 w.1 mid new → new.size ≡ mid.size → BrokeOff writes old new
broke_off writes k w old mid new within is ran certain failed size = record {
  k = k;
  within = within;
  failed = w;
  failed_is = is;
  ran = ⊎_elim
      (λ did. inl (ran_more (take k (puts writes)) _ old mid new before did size))
      (λ none. inr (ran_nothing (take k (puts writes)) old mid new before none size))
      failed.did;
  doubt = ⊎_elim (λ more. inl (subst (λ (d : List ℕ). new.doubt ≡ w.0 ∷ d) certain more)) (λ same. inr (same ∙ certain)) failed.doubt;
}
  where
    before : Ran (take k (puts writes)) old mid
    before = subst (λ (ops : List Operation). Ran ops old mid) (sym (take-puts k writes)) ran

-- right contents written again leave what is right
pub run_settles : (contents : ℕ → List ℕ) (writes : List (ℕ × List ℕ)) (s : ℕ) → ((k : ℕ) (d : ℕ × List ℕ) → k < length writes → (get_or writes k d).1 ≡ contents (get_or writes k d).0)
    → (t : Tape) → Settles t s (contents s) → Settles (did_all (puts writes) t) s (contents s)
run_settles contents [] s right t h = subst (λ (l : List Operation). Settles (record { start = t.start; ops = l }) s (contents s)) (sym (append-nil t.ops)) h
run_settles contents (w ∷ writes) s right t h =
    let one : Settles (did (Put w.0 w.1) t) s (contents s) = elim (cases_eq w.0 s) [
      | inl same ↦ subst (λ (u : ℕ). Settles (did (Put w.0 w.1) t) u (contents u)) same (subst (λ (x : List ℕ). Settles (did (Put w.0 w.1) t) w.0 x) (right 0 w (omega arith)) (settles_put t w.0 w.1))
      | inr other ↦ settles_put_other t w.0 s w.1 (contents s) (λ e. other (sym e)) h
    ] in
    subst (λ (l : List Operation). Settles (record { start = t.start; ops = l }) s (contents s)) (append_assoc t.ops (Put w.0 w.1 ∷ []) (puts writes))
    (run_settles contents writes s (λ k d lt. right (suc k) d (omega (arith, lt))) (did (Put w.0 w.1) t) one)
