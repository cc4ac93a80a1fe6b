-- Which blocks may be claimed one after the other.
use Rattle.std.proofs.Common.{◌≡◌, ℕ, zero, suc, ◌<◌, ◌≤◌, true, false, cond, List, [], ◌∷◌, ◌++◌, length, take, get_or, refl, sym, ap, subst, ◌∙◌, arith, append-nil, append_assoc, inl, inr}
use Rattle.std.specs.Prelude.{◌||◌, ◌==◌}
use Rattle.std.proofs.lemmas.Bool.{cases_Bool, eq-eqb, or_left, or_right, or_from}
use Rattle.std.proofs.lemmas.List.Folds.{list_any-append}
use Rattle.vx_layout.specs.Places.{Volume}
use Rattle.vx_space.specs.Uses.{uses}
use Rattle.vx_sound.specs.Said.{among}
use Rattle.vx_sound.specs.Facts.{IsClaimable, AreClaimable}
use Rattle.vx_model.proofs.Uses.{one, among_uses}

pub among_both : (xs ys : List ℕ) (b : ℕ) → among (xs ++ ys) b ≡ (among xs b || among ys b)
among_both xs ys b = list_any-append (λ y. b == y) xs ys

-- ---- claims one after the other

module _ (v : Volume) where
  no_more : (before xs : List ℕ) (x b : ℕ) → among before b ≡ false → uses (x ∷ xs) b ≤ 1 → among xs b ≡ true → among (before ++ x ∷ []) b ≡ false
  no_more before xs x b new once has =
      among_both before (x ∷ []) b
      ∙ or_from (among before b) ((b == x) || false) new (or_from (b == x) false (elim (cases_Bool (b == x)) [
        | inl e ↦ (let here : one b x ≡ 1 = ap (λ t. cond t 1 0) e in let some = among_uses xs b has in absurd (omega (arith, here, some, once)))
        | inr ne ↦ ne
      ]) refl)

  -- data blocks that are used once, and that nothing claims before
  pub claimable : (before xs : List ℕ) → ((b : ℕ) → among xs b ≡ true → IsClaimable v before b) → ((b : ℕ) → uses xs b ≤ 1) → AreClaimable v before xs
  claimable before [] each once = tt
  claimable before (x ∷ xs) each once = (
    each x (or_left (x == x) (among xs x) (eq-eqb x x refl)),
    claimable (before ++ x ∷ []) xs (λ b h. (
        let is = each b (or_right (b == x) (among xs b) h) in
        record { is_data = is.is_data; new = no_more before xs x b is.new (once b) h }))
        (λ b. (let all = once b in omega (arith, all))),
  )

  -- the first ones, and the others behind them
  pub claimable_first : (before xs ys : List ℕ) → AreClaimable v before (xs ++ ys) → AreClaimable v before xs
  claimable_first before [] ys are = tt
  claimable_first before (x ∷ xs) ys are = (are.0, claimable_first (before ++ x ∷ []) xs ys are.1)

  pub claimable_rest : (before xs ys : List ℕ) → AreClaimable v before (xs ++ ys) → AreClaimable v (before ++ xs) ys
  claimable_rest before [] ys are = subst (λ (zs : List ℕ). AreClaimable v zs ys) (sym (append-nil before)) are
  claimable_rest before (x ∷ xs) ys are = subst (λ (zs : List ℕ). AreClaimable v zs ys) (append_assoc before (x ∷ []) xs) (claimable_rest (before ++ x ∷ []) xs ys are.1)

  pub claimable_at : (before xs : List ℕ) (k : ℕ) → AreClaimable v before xs → k < length xs → IsClaimable v (before ++ take k xs) (get_or xs k 0)
  claimable_at before [] k are less = absurd (omega (arith, less))
  claimable_at before (x ∷ xs) zero are less = subst (λ (zs : List ℕ). IsClaimable v zs x) (sym (append-nil before)) are.0
  claimable_at before (x ∷ xs) (suc k) are less =
      subst (λ (zs : List ℕ). IsClaimable v zs (get_or xs k 0)) (append_assoc before (x ∷ []) (take k xs)) (claimable_at (before ++ x ∷ []) xs k are.1 (omega (arith, less)))
