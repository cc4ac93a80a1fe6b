-- Whether blocks wait to be free.
use Rattle.std.proofs.Common.{◌≡◌, ℕ, suc, ◌+◌, ◌-◌, true, false, not, List, [], ◌∷◌, get_or, Option, Some, None, refl, sym, ◌∙◌, ap, subst, arith}
use Rattle.std.specs.Prelude.{IsSome, is_some, ◌==◌}
use Rattle.std.specs.List.{count_by}
use Rattle.vx_model.specs.State.{State}
use Rattle.vx_txn.specs.Metas.{IsStateOf}
use Rattle.vx_txn.specs.declared.meta.Meta.{Meta}

some_at : (xs : List (Option ℕ)) (n : ℕ) → n ≡ count_by is_some xs → not (n == 0) ≡ true → (i : ℕ) × IsSome (get_or xs i None)
some_at [] n count some = absurd (let zero_is : not (n == 0) ≡ false = ap (λ (k : ℕ). not (k == 0)) count in cc)
some_at (None ∷ xs) n count some = let p = some_at xs n count some in (suc p.0, p.1)
some_at (Some x ∷ xs) n count some = (0, refl)

-- the count of places for which a block waits is not zero
pub some_counted : (m : Meta) (s : State) → IsStateOf m s → (n : ℕ) → n ≡ count_by is_some m.free.pending → not (n == 0) ≡ true → (b : ℕ) × IsSome (s.layout.pending b)
some_counted m s is n count some =
    let p = some_at m.free.pending n count some in
    let at : m.free.first + p.0 - m.free.first ≡ p.0 = omega arith in
    (m.free.first + p.0, subst IsSome (ap (λ (k : ℕ). get_or m.free.pending k None) (sym at) ∙ is.pending (m.free.first + p.0)) p.1)
