-- What a crash may leave in one sector, while several sectors are written.
use Rattle.std.proofs.Common.{◌≡◌, ◌<◌, ℕ, List, [], length, get_or, ⊎_elim, inl, inr, subst, sym, Contains}
use Rattle.std.specs.Prelude.{Option, Some, IfSome}
use Rattle.vx_dev.specs.declared.device.Operation.{Operation}
use Rattle.vx_dev.specs.declared.device.Operation.TheVariants.{Put}
use Rattle.vx_dev.specs.Tape.{Tape, State, Writes, did, tried, MayHold}
use Rattle.vx_dev.proofs.Tapes.{put_writes, tried_writes}
use Rattle.vx_dev.specs.Runs.{Ran, puts, BrokeOff}
use Rattle.vx_dev.specs.Moments.{Told, Shows, Past, Passed}
use Rattle.vx_dev.proofs.Claims.{told_by, at_tape, passed_past, told_weaker, stage_keeps, broken_keeps, past_did, past_start}

module _ (s : ℕ) (values : List (List ℕ)) where
  abbrev pub Keeps : Tape → Type 0
  Keeps t = (x : List ℕ) → MayHold t s x → Contains values x

  abbrev pub There : (ℕ → List ℕ) → Type 0
  There image = Contains values (image s)

  shows : (t : Tape) → Keeps t → Shows There t
  shows t k image is = k (image s) (is s)

  -- each of these writes to the sector has one of the values
  abbrev pub AreAmong : List (ℕ × List ℕ) → Type 0
  AreAmong writes = (k : ℕ) (d : ℕ × List ℕ) → k < length writes → (get_or writes k d).0 ≡ s → Contains values (get_or writes k d).1

  module _ (writes : List (ℕ × List ℕ)) (among : AreAmong writes) where
    record Keeping (first : ℕ) (t : Tape) : Type 0 where
      keeps : Keeps t
      past : Past first (λ _. There) t

    abbrev none : ℕ × List ℕ
    none = (0, [])

    after : (first : ℕ) (op : Operation) (u : ℕ) (bytes : List ℕ) (t : Tape) → Writes op u bytes → (u ≡ s → Contains values bytes) → Keeping first t → Keeping first (did op t)
    after first op u bytes t w right k = record {
      keeps = λ x may. elim (w.may t s x may) [ inl before ↦ k.keeps x before | inr here ↦ subst (Contains values) (sym here.1) (right (sym here.0)) ];
      past = past_did first (λ _. There) t op k.past (shows t k.keeps);
    }

    step : (first i : ℕ) (t : Tape) → i < length writes → Keeping first t → Keeping first (did (Put (get_or writes i none).0 (get_or writes i none).1) t)
    step first i t lt k =
        let w : ℕ × List ℕ = get_or writes i none in
        after first (Put w.0 w.1) w.0 w.1 t (put_writes w.0 w.1) (among i none lt) k

    begun : (d : State) (t : Tape) → d.told ≡ Some t → Told d Keeps → Told d (Keeping (length t.ops))
    begun d t e h = subst (λ (o : Option Tape). IfSome o (Keeping (length t.ops))) (sym e) (record { keeps = at_tape d Keeps t h e; past = past_start (λ _. There) t })

    done : (old new : State) → Ran (puts writes) old new → Told old Keeps → (t : Tape) → old.told ≡ Some t → Told new (Keeping (length t.ops))
    done old new ran h t e = stage_keeps (λ _. Keeping (length t.ops)) writes none (step (length t.ops)) old new ran (begun old t e h)

    pub values_kept : (old new : State) → Ran (puts writes) old new → Told old Keeps → Told new Keeps
    values_kept old new ran h = told_by (puts writes) old new Keeps ran.told (λ t e. told_weaker new _ _ (λ u p. p.keeps) (done old new ran h t e))

    pub values_passed : (old new : State) → Ran (puts writes) old new → Told old Keeps → Passed There old new
    values_passed old new ran h = passed_past There (puts writes) old new ran.told (λ t e. told_weaker new _ _ (λ u p. (p.past, shows u p.keeps)) (done old new ran h t e))

    pub values_broken : (old new : State) → BrokeOff writes old new → Told old Keeps → Passed There old new
    values_broken old new broke h =
        let past = λ (t : Tape) (e : old.told ≡ Some t).
        let kept : Told new (Keeping (length t.ops)) =
        broken_keeps (λ _. Keeping (length t.ops)) writes none (step (length t.ops)) (Keeping (length t.ops))
        (λ i u lt k. let w : ℕ × List ℕ = get_or writes i none in after (length t.ops) (tried w.0 w.1) w.0 w.1 u (tried_writes w.0 w.1) (among i none lt) k)
        (λ i u lt k. k) old new broke (begun old t e h) in
        told_weaker new (Keeping (length t.ops)) (λ u. Past (length t.ops) (λ _. There) u × Shows There u) (λ u p. (p.past, shows u p.keeps)) kept in
        ⊎_elim (λ ran. passed_past There _ old new ran.told past) (λ ran. passed_past There _ old new ran.told past) broke.ran
