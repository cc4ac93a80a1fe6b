-- A finite map after a change, at the key and elsewhere.
use Rattle.std.proofs.Common.{◌≡◌, ◌≢◌, ℕ, false, cond, Some, None, refl, sym, ap, ◌∙◌, subst, inl, inr}
use Rattle.std.proofs.lemmas.Bool.{cases_eq}
use Rattle.std.specs.declared.cmp.Ordering.{Ordering}
use Rattle.std.specs.declared.cmp.Ordering.TheVariants.{Less, Equal, Greater}
use Rattle.std.specs.Ordering.{nat_cmp, eq_by_cmp, is_eq}
use Rattle.std.specs.Cmp.{IsTotalOrder, tied_itself, nat_cmp_total}
use Rattle.std.specs.FinMap as map

pub apart : {K : Type 0} (R : K → K → Ordering) → map.IsAntisymmetric R → (x y : K) → x ≢ y → eq_by_cmp R x y ≡ false
apart R same x y ne =
    elim (R x y) as (λ r. R x y ≡ r → is_eq r ≡ false) [
      | Less ↦ λ e. refl
      | Equal ↦ λ e. absurd (ne (same x y e))
      | Greater ↦ λ e. refl
    ] refl

module _ {K X : Type 0} {R : K → K → Ordering} (o : IsTotalOrder R) (same : map.IsAntisymmetric R) where
  pub get_same : (m : map.FinMap R X) (k : K) (v : X) → map.get (map.insert m k v) k ≡ Some v
  get_same m k v = map.get-insert o m k v k ∙ ap (λ b. cond b (Some v) (map.get m k)) (ap is_eq (tied_itself o k))

  pub get_other : (m : map.FinMap R X) (k : K) (v : X) (q : K) → q ≢ k → map.get (map.insert m k v) q ≡ map.get m q
  get_other m k v q ne = map.get-insert o m k v q ∙ ap (λ b. cond b (Some v) (map.get m q)) (apart R same q k ne)

module _ {X : Type 0} where
  pub at_key : (m : map.FinMap nat_cmp X) (k : ℕ) (v : X) → map.get (map.insert m k v) k ≡ Some v
  at_key = get_same nat_cmp_total map.nat_cmp-IsAntisymmetric

  pub at_other : (m : map.FinMap nat_cmp X) (k : ℕ) (v : X) (q : ℕ) → q ≢ k → map.get (map.insert m k v) q ≡ map.get m q
  at_other = get_other nat_cmp_total map.nat_cmp-IsAntisymmetric

  -- a new key that is taken back
  pub taken_back : (m : map.FinMap nat_cmp X) (k : ℕ) (v : X) → map.get m k ≡ None → map.remove (map.insert m k v) k ≡ m
  taken_back m k v none = map.same_map nat_cmp_total map.nat_cmp-IsAntisymmetric _ _ (λ q.
      map.get-remove nat_cmp_total (map.insert m k v) k q
      ∙ elim (cases_eq q k) [
        | inl here ↦ subst (λ (x : ℕ). cond (eq_by_cmp nat_cmp x k) None (map.get (map.insert m k v) x) ≡ map.get m x) (sym here) (ap (λ b. cond b None (map.get (map.insert m k v) k)) (ap is_eq (tied_itself nat_cmp_total k)) ∙ sym none)
        | inr other ↦ ap (λ b. cond b None (map.get (map.insert m k v) q)) (apart nat_cmp map.nat_cmp-IsAntisymmetric q k other) ∙ at_other m k v q other
      ])

  -- two keys may be put in either order
  pub put_twice : (m : map.FinMap nat_cmp X) (a b : ℕ) (v w : X) → a ≢ b → map.insert (map.insert m a v) b w ≡ map.insert (map.insert m b w) a v
  put_twice m a b v w ne = map.same_map nat_cmp_total map.nat_cmp-IsAntisymmetric _ _ (λ q.
      elim (cases_eq q b) [
        | inl here ↦ subst (λ (x : ℕ). map.get (map.insert (map.insert m a v) b w) x ≡ map.get (map.insert (map.insert m b w) a v) x) (sym here)
            (at_key (map.insert m a v) b w ∙ sym (at_other (map.insert m b w) a v b (λ e. ne (sym e)) ∙ at_key m b w))
        | inr other ↦ at_other (map.insert m a v) b w q other ∙ elim (cases_eq q a) [
          | inl here ↦ subst (λ (x : ℕ). map.get (map.insert m a v) x ≡ map.get (map.insert (map.insert m b w) a v) x) (sym here) (at_key m a v ∙ sym (at_key (map.insert m b w) a v))
          | inr further ↦ at_other m a v q further ∙ sym (at_other (map.insert m b w) a v q further ∙ at_other m b w q other)
        ]
      ])

  -- what is put twice at one key
  pub put_again : (m : map.FinMap nat_cmp X) (k : ℕ) (v w : X) → map.insert (map.insert m k v) k w ≡ map.insert m k w
  put_again m k v w = map.same_map nat_cmp_total map.nat_cmp-IsAntisymmetric _ _ (λ q.
      elim (cases_eq q k) [
        | inl here ↦ subst (λ (x : ℕ). map.get (map.insert (map.insert m k v) k w) x ≡ map.get (map.insert m k w) x) (sym here) (at_key (map.insert m k v) k w ∙ sym (at_key m k w))
        | inr other ↦ at_other (map.insert m k v) k w q other ∙ at_other m k v q other ∙ sym (at_other m k w q other)
      ])
