-- Numbers that become 0 one after another.
use Rattle.std.proofs.Common.{◌≡◌, ◌+◌, ◌<◌, ℕ, zero, suc, [], ◌∷◌, length, get_or, set, refl, ap, ◌∙◌, subst, arith}
use Rattle.vx_flush.specs.Entries.{Entry, Numbers, zeroed}

-- the first k numbers are 0
abbrev pub zeroed_to : ℕ → Numbers → Numbers
zeroed_to zero es = es
zeroed_to (suc k) [] = []
zeroed_to (suc k) (e ∷ es) = (e.0, 0) ∷ zeroed_to k es

pub length_to : (k : ℕ) (es : Numbers) → length (zeroed_to k es) ≡ length es
length_to zero es = refl
length_to (suc k) [] = refl
length_to (suc k) (e ∷ es) = ap suc (length_to k es)

zeroed_more : (k : ℕ) (es : Numbers) (d : Entry ℕ) → k < length es → set (zeroed_to k es) k ((get_or (zeroed_to k es) k d).0, 0) ≡ zeroed_to (suc k) es
zeroed_more k [] d lt = absurd (omega (arith, lt))
zeroed_more zero (e ∷ es) d lt = refl
zeroed_more (suc k) (e ∷ es) d lt = ap (λ (l : Numbers). (e.0, 0) ∷ l) (zeroed_more k es d (omega (arith, lt)))

pub zeroed_step : (k : ℕ) (es now : Numbers) (d : Entry ℕ) → now ≡ zeroed_to k es → d ≡ get_or now k d → k < length es → set now k (d.0, 0) ≡ zeroed_to (k + 1) es
zeroed_step k es now d is at lt =
    let next : suc k ≡ k + 1 = omega arith in
    subst (λ (n : ℕ). set now k (d.0, 0) ≡ zeroed_to n es) next
    (ap (λ (l : Numbers). set l k (d.0, 0)) is ∙ ap (λ (e : Entry ℕ). set (zeroed_to k es) k (e.0, 0)) (at ∙ ap (λ (l : Numbers). get_or l k d) is) ∙ zeroed_more k es d lt)

zeroed_all : (es : Numbers) → zeroed_to (length es) es ≡ zeroed es
zeroed_all [] = refl
zeroed_all (e ∷ es) = ap (λ (l : Numbers). (e.0, 0) ∷ l) (zeroed_all es)

pub zeroed_end : (k : ℕ) (es : Numbers) → length es ≡ k → zeroed_to k es ≡ zeroed es
zeroed_end k es is = subst (λ (n : ℕ). zeroed_to n es ≡ zeroed es) is (zeroed_all es)
