-- Maps after a change at one key, and how many of their values pass a test.
use Rattle.std.proofs.Common.{◌≡◌, ◌≢◌, ◌+◌, Bool, true, false, cond, List, [], ◌∷◌, map, Option, Some, None, refl, sym, ap, ◌∙◌, subst, arith, count_by}
use Rattle.std.specs.Prelude.{is_some}
use Rattle.std.specs.declared.cmp.Ordering.{Ordering}
use Rattle.std.specs.declared.cmp.Ordering.TheVariants.{Less, Equal, Greater}
use Rattle.std.specs.Ordering.{nat_cmp, ordering_then, eq_by_cmp, is_eq}
use Rattle.std.specs.Cmp.{IsTotalOrder, nat_cmp_total, on_total, then_total}
use Rattle.std.specs.FinMap.Entries.{by_order}
use Rattle.std.specs.FinMap.{FinMap, IsAntisymmetric, nat_cmp-IsAntisymmetric, find, put, entries, values, get, insert, remove, get-entries, entries-insert, get-insert, get-remove, same_map, len, len-insert}
use Rattle.std.proofs.lemmas.List.Sums.{sum_by-cons}
use Rattle.vx_handles.specs.OpenHandles.{Key, key_cmp}

pub equal : (r : Ordering) → is_eq r ≡ true → r ≡ Equal
equal Less e = absurd (cc)
equal Equal e = refl
equal Greater e = absurd (cc)

pub key_total : IsTotalOrder key_cmp
key_total = then_total (on_total (λ (k : Key). k.0) nat_cmp_total) (on_total (λ (k : Key). k.1) nat_cmp_total)

pub not_equal : (r : Ordering) → is_eq r ≡ false → r ≢ Equal
not_equal r other e = let yes : is_eq r ≡ true = ap is_eq e in cc

pub key_same : IsAntisymmetric key_cmp
key_same x y is =
    elim (nat_cmp x.0 y.0) as (λ r. nat_cmp x.0 y.0 ≡ r → ordering_then r (nat_cmp x.1 y.1) ≡ Equal → x ≡ y) [
      | Less ↦ λ p e. absurd (not_equal Less refl e)
      | Equal ↦ λ p e i. (nat_cmp-IsAntisymmetric x.0 y.0 p i, nat_cmp-IsAntisymmetric x.1 y.1 e i)
      | Greater ↦ λ p e. absurd (not_equal Greater refl e)
    ] refl is

module _ {K X : Type 0} {R : K → K → Ordering} (o : IsTotalOrder R) (same : IsAntisymmetric R) where
  -- a new key that is taken back
  pub taken_back : (m : FinMap R X) (k : K) (v : X) → get m k ≡ None → remove (insert m k v) k ≡ m
  taken_back m k v none = same_map o same _ _ (λ q.
      get-remove o (insert m k v) k q
      ∙ elim (eq_by_cmp R q k) as (λ b. eq_by_cmp R q k ≡ b → cond b None (get (insert m k v) q) ≡ get m q) [
        | true ↦ λ t. subst (λ (x : K). None ≡ get m x) (sym (same q k (equal _ t))) (sym none)
        | false ↦ λ f. get-insert o m k v q ∙ ap (λ b. cond b (Some v) (get m q)) f
      ] refl)

  -- a key that isn't there
  pub remove_absent : (m : FinMap R X) (k : K) → get m k ≡ None → remove m k ≡ m
  remove_absent m k none = same_map o same _ _ (λ q.
      get-remove o m k q
      ∙ elim (eq_by_cmp R q k) as (λ b. eq_by_cmp R q k ≡ b → cond b None (get m q) ≡ get m q) [
        | true ↦ λ t. subst (λ (x : K). None ≡ get m x) (sym (same q k (equal _ t))) (sym none)
        | false ↦ λ f. refl
      ] refl)

  pub len_more : (m : FinMap R X) (k : K) (v : X) → get m k ≡ None → len (insert m k v) ≡ len m + 1
  len_more m k v none = len-insert o m k v ∙ ap (λ (x : Option X). cond (is_some x) (len m) (len m + 1)) none

  module _ (p : X → Bool) where
    count_put : (k : K) (v : X) (es : List (K × X)) → find R k es ≡ None → count_by p (map (λ e. e.1) (put R k v es)) ≡ cond (p v) 1 0 + count_by p (map (λ e. e.1) es)
    count_put k v [] none = sum_by-cons (λ x. cond (p x) 1 0) v []
    count_put k v (e ∷ es) none =
        elim (R k e.0) as (λ r. cond (is_eq r) (Some e.1) (find R k es) ≡ None → count_by p (map (λ e. e.1) (by_order r ((k, v) ∷ e ∷ es) ((e.0, v) ∷ es) (e ∷ put R k v es))) ≡ cond (p v) 1 0 + count_by p (map (λ e. e.1) (e ∷ es))) [
          | Less ↦ λ n. sum_by-cons (λ x. cond (p x) 1 0) v (map (λ e. e.1) (e ∷ es))
          | Equal ↦ λ n. absurd (cc)
          | Greater ↦ λ n. omega (arith, count_put k v es n, sum_by-cons (λ x. cond (p x) 1 0) e.1 (map (λ e. e.1) (put R k v es)), sum_by-cons (λ x. cond (p x) 1 0) e.1 (map (λ e. e.1) es))
        ] none

    pub count_insert : (m : FinMap R X) (k : K) (v : X) → get m k ≡ None → count_by p (values (insert m k v)) ≡ cond (p v) 1 0 + count_by p (values m)
    count_insert m k v none = ap (λ es. count_by p (map (λ e. e.1) es)) (entries-insert o m k v) ∙ count_put k v (entries m) (sym (get-entries m k) ∙ none)
