-- Handles that are open, and a file's last one.
use Rattle.std.proofs.Common.{◌≡◌, ◌≢◌, ℕ, ◌+◌, Bool, true, false, cond, List, [], ◌∷◌, map as list_map, Option, Some, None, refl, sym, ap, ◌∙◌, subst, arith, count_by}
use Rattle.std.specs.Prelude.{◌&&◌, ◌==◌, IfSome}
use lib.Dec.{T}
use Rattle.std.specs.Cmp.{IsTotalOrder, nat_cmp_total, then_total, on_total, tied_itself}
use Rattle.std.specs.declared.cmp.Ordering.{Ordering}
use Rattle.std.specs.declared.cmp.Ordering.TheVariants.{Less, Equal, Greater}
use Rattle.std.specs.Ordering.{eq_by_cmp, nat_cmp, ordering_then, is_eq, is_lt}
use Rattle.std.specs.FinMap as map
use Rattle.std.specs.FinMap.{find, is_sorted, entries, entries_sorted, get-entries}
use Rattle.std.specs.FinMap.Entries.{below_all}
use Rattle.std.proofs.lemmas.Bool.{eq-eqb, ne_eqb, ltb-true, ltb-false}
use Rattle.std.proofs.lemmas.List.Sums.{sum_by-cons}
use Rattle.vx_base.proofs.Maps.{apart, get_same, get_other}
use Rattle.vx_model.specs.Tree.{HandleKey, Opened, Handles, handle_cmp, Tree}
use Rattle.vx_model.specs.LaidOut.{IsClosed}
use Rattle.vx_model.specs.Handles.{open_on, is_open}

-- ---- the order of handles

pub handles_total : IsTotalOrder handle_cmp
handles_total = then_total (on_total (λ (k : HandleKey). k.session) nat_cmp_total) (on_total (λ (k : HandleKey). k.handle) nat_cmp_total)

not_equal : (r : Ordering) → is_eq r ≡ false → r ≢ Equal
not_equal r other e = let yes : is_eq r ≡ true = ap is_eq e in cc

pub handles_apart : map.IsAntisymmetric handle_cmp
handles_apart x y is =
    elim (nat_cmp x.session y.session) as (λ r. nat_cmp x.session y.session ≡ r → ordering_then r (nat_cmp x.handle y.handle) ≡ Equal → x ≡ y) [
      | Less ↦ λ p e. absurd (not_equal Less refl e)
      | Equal ↦ λ p e i. record { session = map.nat_cmp-IsAntisymmetric x.session y.session p i; handle = map.nat_cmp-IsAntisymmetric x.handle y.handle e i }
      | Greater ↦ λ p e. absurd (not_equal Greater refl e)
    ] refl is

-- ---- a handle more or less

pub opened_here : (m : Handles) (k : HandleKey) (v : Opened) → map.get (map.insert m k v) k ≡ Some v
opened_here = get_same handles_total handles_apart

pub opened_other : (m : Handles) (k : HandleKey) (v : Opened) (q : HandleKey) → q ≢ k → map.get (map.insert m k v) q ≡ map.get m q
opened_other = get_other handles_total handles_apart

pub closed_here : (m : Handles) (k : HandleKey) → map.get (map.remove m k) k ≡ None
closed_here m k = map.get-remove handles_total m k k ∙ ap (λ b. cond b None (map.get m k)) (ap is_eq (tied_itself handles_total k))

pub closed_other : (m : Handles) (k q : HandleKey) → q ≢ k → map.get (map.remove m k) q ≡ map.get m q
closed_other m k q ne = map.get-remove handles_total m k q ∙ ap (λ b. cond b None (map.get m q)) (apart handle_cmp handles_apart q k ne)

-- a key is this one or another
pub key_cases : (P : Type 0) (q k : HandleKey) → (q ≡ k → P) → (q ≢ k → P) → P
key_cases P q k same other =
    elim (handle_cmp q k) as (λ r. handle_cmp q k ≡ r → P) [
      | Less ↦ λ e. other (λ is. not_equal Less refl (sym e ∙ ap (handle_cmp q) (sym is) ∙ tied_itself handles_total q))
      | Equal ↦ λ e. same (handles_apart q k e)
      | Greater ↦ λ e. other (λ is. not_equal Greater refl (sym e ∙ ap (handle_cmp q) (sym is) ∙ tied_itself handles_total q))
    ] refl

-- ---- no handle is open on a file

abbrev Entry : Type 0
Entry = HandleKey × Opened

abbrev on_file : ℕ → List Entry → ℕ
on_file ino es = count_by (λ (o : Opened). o.ino == ino) (list_map (λ (e : Entry). e.1) es)

abbrev one_if : Bool → ℕ
one_if t = cond t 1 0

on_more : (ino : ℕ) (e : Entry) (es : List Entry) → on_file ino (e ∷ es) ≡ one_if (e.1.ino == ino) + on_file ino es
on_more ino e es = sum_by-cons (λ (o : Opened). one_if (o.ino == ino)) e.1 (list_map (λ (x : Entry). x.1) es)

abbrev IsElsewhere : ℕ → Opened → Type 0
IsElsewhere ino o = o.ino ≢ ino

none_found : (ino : ℕ) (es : List Entry) → on_file ino es ≡ 0 → (q : HandleKey) → IfSome (find handle_cmp q es) (IsElsewhere ino)
none_found ino [] none q = tt
none_found ino (e ∷ es) none q = by (eq_by_cmp handle_cmp q e.0) (none_found ino es (let more = on_more ino e es in omega (arith, more, none)) q)
  where
    by : (t : Bool) → IfSome (find handle_cmp q es) (IsElsewhere ino) → IfSome (cond t (Some e.1) (find handle_cmp q es)) (IsElsewhere ino)
    by true rest = λ same. (let more = on_more ino e es in let here : one_if (e.1.ino == ino) ≡ 1 = ap one_if (eq-eqb e.1.ino ino same) in absurd (omega (arith, more, here, none)))
    by false rest = rest

less_is : (r : Ordering) → T (is_lt r) → is_eq r ≡ false
less_is Less h = refl
less_is Equal h = absurd h
less_is Greater h = absurd h

and_first : (a b : Bool) → T (a && b) → T a
and_first true b h = tt
and_first false b h = h

and_second : (a b : Bool) → T (a && b) → T b
and_second true b h = h
and_second false b h = absurd h

not_below : (q : HandleKey) (es : List Entry) → T (below_all handle_cmp q es) → find handle_cmp q es ≡ None
not_below q [] h = refl
not_below q (e ∷ es) h =
    ap (λ t. cond t (Some e.1) (find handle_cmp q es)) (less_is (handle_cmp q e.0) (and_first (is_lt (handle_cmp q e.0)) (below_all handle_cmp q es) h)) ∙ not_below q es (and_second (is_lt (handle_cmp q e.0)) (below_all handle_cmp q es) h)

none_open : (ino : ℕ) (es : List Entry) → T (is_sorted handle_cmp es) → ((q : HandleKey) → IfSome (find handle_cmp q es) (IsElsewhere ino)) → on_file ino es ≡ 0
none_open ino [] sorted none = refl
none_open ino (e ∷ es) sorted none =
    let more = on_more ino e es in
    let here : one_if (e.1.ino == ino) ≡ 0 = ap one_if (ne_eqb e.1.ino ino head) in
    let rest = none_open ino es (and_second (below_all handle_cmp e.0 es) (is_sorted handle_cmp es) sorted) tail in
    omega (arith, more, here, rest)
  where
    head : e.1.ino ≢ ino
    head = subst (λ (t : Bool). IfSome (cond t (Some e.1) (find handle_cmp e.0 es)) (IsElsewhere ino)) (ap is_eq (tied_itself handles_total e.0)) (none e.0)

    tail : (q : HandleKey) → IfSome (find handle_cmp q es) (IsElsewhere ino)
    tail q = key_cases (IfSome (find handle_cmp q es) (IsElsewhere ino)) q e.0
        (λ same. subst (λ (o : Option Opened). IfSome o (IsElsewhere ino)) (sym (ap (λ (k : HandleKey). find handle_cmp k es) same ∙ not_below e.0 es (and_first (below_all handle_cmp e.0 es) (is_sorted handle_cmp es) sorted))) tt)
        (λ other. subst (λ (t : Bool). IfSome (cond t (Some e.1) (find handle_cmp q es)) (IsElsewhere ino)) (apart handle_cmp handles_apart q e.0 other) (none q))

pub closed_is : (t : Tree) (ino : ℕ) → is_open t ino ≡ false → IsClosed t ino
closed_is t ino h key =
    let few : open_on t ino ≡ 0 = (let not_more = ltb-false 0 (open_on t ino) h in omega (arith, not_more)) in
    subst (λ (o : Option Opened). IfSome o (IsElsewhere ino)) (sym (get-entries t.handles key)) (none_found ino (entries t.handles) few key)

pub open_is : (t : Tree) (ino : ℕ) → is_open t ino ≡ true → IsClosed t ino → {A : Type 0} → A
open_is t ino h closed =
    let some = ltb-true 0 (open_on t ino) h in
    let none = none_open ino (entries t.handles) (entries_sorted t.handles) (λ q. subst (λ (o : Option Opened). IfSome o (IsElsewhere ino)) (get-entries t.handles q) (closed q)) in
    absurd (omega (arith, some, none))

unopened_by : (t : Tree) (ino : ℕ) (opened : Bool) → is_open t ino ≡ opened → IsClosed t ino → opened ≡ false
unopened_by t ino true h closed = open_is t ino h closed
unopened_by t ino false h closed = refl

pub unopened_is : (t : Tree) (ino : ℕ) → IsClosed t ino → is_open t ino ≡ false
unopened_is t ino = unopened_by t ino (is_open t ino) refl
