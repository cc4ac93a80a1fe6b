-- A map of names after a change.
use Rattle.std.proofs.Common.{◌≡◌, Bool, true, false, cond, bytes_eq, List, [], ◌∷◌, Some, None, refl, sym, ◌∙◌, ap, subst}
use Rattle.std.specs.BTreeMap.{is_at}
use Rattle.std.specs.Cmp.Lexicographic.{slice_cmp, nat_list_cmp_total}
use Rattle.std.specs.FinMap as map
use Rattle.std.specs.Map.{lookup}
use Rattle.std.specs.Ordering.{nat_cmp, eq_by_cmp}
use Rattle.std.proofs.lemmas.Cmp.{eq_by_cmp_equiv}
use Rattle.std.proofs.lemmas.Map.Text.{is_eq-slice_cmp}
use Rattle.std.proofs.lemmas.Slice.Eq.{bytes_eq-Decides}
use Rattle.vx_base.specs.Paths.{FileName}

pub same_names : map.IsAntisymmetric (slice_cmp nat_cmp)
same_names = map.slice_cmp-IsAntisymmetric map.nat_cmp-IsAntisymmetric

-- the order ties the names that are equal
ties : (k q : FileName) → eq_by_cmp (slice_cmp nat_cmp) q k ≡ bytes_eq k q
ties k q = (eq_by_cmp_equiv nat_list_cmp_total).symm q k ∙ is_eq-slice_cmp k q

abbrev pub NameMap : Type 0 → Type 0
NameMap X = map.FinMap {K = FileName} (slice_cmp nat_cmp) X

module _ {X : Type 0} where
  pub get_inserted : (m : NameMap X) (k : FileName) (v : X) (q : FileName) → map.get (map.insert m k v) q ≡ cond (bytes_eq k q) (Some v) (map.get m q)
  get_inserted m k v q = map.get-insert nat_list_cmp_total m k v q ∙ ap (λ (b : Bool). cond b (Some v) (map.get m q)) (ties k q)

  pub get_removed : (m : NameMap X) (k q : FileName) → map.get (map.remove m k) q ≡ cond (bytes_eq k q) None (map.get m q)
  get_removed m k q = map.get-remove nat_list_cmp_total m k q ∙ ap (λ (b : Bool). cond b None (map.get m q)) (ties k q)

  -- a new name that is taken out again
  pub taken_back : (m : NameMap X) (k : FileName) (v : X) → map.get m k ≡ None → map.remove (map.insert m k v) k ≡ m
  taken_back m k v none = map.same_map nat_list_cmp_total same_names _ _ (λ q.
      get_removed (map.insert m k v) k q ∙ ap (cond (bytes_eq k q) None) (get_inserted m k v q)
      ∙ elim (bytes_eq k q) as (λ (b : Bool). bytes_eq k q ≡ b → cond b None (cond b (Some v) (map.get m q)) ≡ map.get m q) [
        | true ↦ λ same. sym (subst (λ (x : FileName). map.get m x ≡ None) ((bytes_eq-Decides k q).0 same) none)
        | false ↦ λ other. refl
      ] refl)

  -- ---- the map that entries make

  find_name : (es : List (FileName × X)) (q : FileName) → map.find (slice_cmp nat_cmp) q es ≡ lookup (is_at (slice_cmp nat_cmp q)) es
  find_name [] q = refl
  find_name (e ∷ es) q = ap (cond (is_at (slice_cmp nat_cmp q) e.0) (Some e.1)) (find_name es q)

  pub get_name : (es : List (FileName × X)) (q : FileName) → map.get (map.from_entries {R = slice_cmp nat_cmp} es) q ≡ lookup (is_at (slice_cmp nat_cmp q)) es
  get_name es q = map.get-from_entries nat_list_cmp_total es q ∙ find_name es q

  -- entries that differ at one name make maps that differ there
  module _ (es fs : List (FileName × X)) (k : FileName) where
    pub one_given : (v : X) → ((q : FileName) → lookup (is_at (slice_cmp nat_cmp q)) fs ≡ cond (is_at (slice_cmp nat_cmp k) q) (Some v) (lookup (is_at (slice_cmp nat_cmp q)) es))
        → map.from_entries {R = slice_cmp nat_cmp} fs ≡ map.insert (map.from_entries es) k v
    one_given v h = map.same_map nat_list_cmp_total same_names _ _ (λ q.
        get_name fs q ∙ h q ∙ ap (λ (b : Bool). cond b (Some v) (lookup (is_at (slice_cmp nat_cmp q)) es)) (is_eq-slice_cmp k q)
        ∙ sym (get_inserted (map.from_entries es) k v q ∙ ap (cond (bytes_eq k q) (Some v)) (get_name es q)))

    pub one_taken : ((q : FileName) → lookup (is_at (slice_cmp nat_cmp q)) fs ≡ cond (is_at (slice_cmp nat_cmp k) q) None (lookup (is_at (slice_cmp nat_cmp q)) es))
        → map.from_entries {R = slice_cmp nat_cmp} fs ≡ map.remove (map.from_entries es) k
    one_taken h = map.same_map nat_list_cmp_total same_names _ _ (λ q.
        get_name fs q ∙ h q ∙ ap (λ (b : Bool). cond b None (lookup (is_at (slice_cmp nat_cmp q)) es)) (is_eq-slice_cmp k q)
        ∙ sym (get_removed (map.from_entries es) k q ∙ ap (cond (bytes_eq k q) None) (get_name es q)))
