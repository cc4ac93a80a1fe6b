-- Each directory is reached from the root, since it has a name, and none is below itself.
use Rattle.std.proofs.Common.{◌≡◌, ◌≢◌, ◌⊎◌, ℕ, zero, suc, ◌+◌, ◌*◌, ◌<◌, ◌≤◌, Bool, true, false, cond, not, List, [], ◌∷◌, ◌++◌, length, filter, Option, Some, None, Ok, Err, refl, sym, ap, subst, ◌∙◌, arith, inl, inr}
use Rattle.std.specs.Prelude.{◌==◌, ◌||◌}
use Rattle.std.specs.FinMap as map
use Rattle.std.proofs.lemmas.Bool.{cases_eq, eq-eqb, ne_eqb, or_left, or_right}
use Rattle.vx_base.specs.Paths.{FileName}
use Rattle.vx_base.specs.declared.refusal.Refusal.TheVariants as no
use Rattle.vx_sound.specs.FirstFault.{numbers}
use Rattle.vx_sound.specs.Said.{among}
use Rattle.vx_model.specs.Outcome.{Maybe, ◌>>=◌, need}
use Rattle.vx_model.specs.Tree.{Nodes, Node, Directory, IsFile, IsDirectory}
use Rattle.vx_model.specs.State.{State}
use Rattle.vx_model.specs.Walks.{root, as_directory, step_to, walk}
use Rattle.vx_model.specs.NameLaws.{meaning_in, lookup, HasLinks, Reaches, HasNoLoops}
use Rattle.vx_wellformed.specs.Names.{IsReached}
use Rattle.vx_wellformed.proofs.Naming.{named_directory, Parent, parent_of, directory_names}

-- ---- walks

step_by : (x : FileName) (o : Option Node) (y : ℕ) → meaning_in x o ≡ Some y → ((need o no.NoEnt >>= as_directory) >>= (λ d. need (map.get d.entries x) no.NoEnt)) ≡ Ok y
step_by x None y h = absurd cc
step_by x (Some (IsFile f)) y h = absurd cc
step_by x (Some (IsDirectory d)) y h = ap (λ o. need o no.NoEnt) h

pub walk_on : (nodes : Nodes) (q : ℕ) (x : FileName) (rest : List FileName) (y : ℕ) → lookup nodes q x ≡ Some y → walk nodes q (x ∷ rest) ≡ walk nodes y rest
walk_on nodes q x rest y h = ap (λ m. m >>= (λ next. walk nodes next rest)) (step_by x (map.get nodes q) y h)

step_back : (x : FileName) (o : Option Node) (y : ℕ) → ((need o no.NoEnt >>= as_directory) >>= (λ d. need (map.get d.entries x) no.NoEnt)) ≡ Ok y → meaning_in x o ≡ Some y
step_back x None y h = absurd cc
step_back x (Some (IsFile f)) y h = absurd cc
step_back x (Some (IsDirectory d)) y h = need_some (map.get d.entries x) y h
  where
    need_some : (o : Option ℕ) (y : ℕ) → need o no.NoEnt ≡ Ok y → o ≡ Some y
    need_some None y h = absurd cc
    need_some (Some z) y h = let e : z ≡ y = cc in ap Some e

bind_ok : (m : Maybe ℕ) (rest : ℕ → Maybe ℕ) (z : ℕ) → (m >>= rest) ≡ Ok z → (y : ℕ) × (m ≡ Ok y) × (rest y ≡ Ok z)
bind_ok (Ok y) rest z h = (y, refl, h)
bind_ok (Err why) rest z h = absurd cc

pub walk_first : (nodes : Nodes) (q : ℕ) (x : FileName) (rest : List FileName) (z : ℕ) → walk nodes q (x ∷ rest) ≡ Ok z → (y : ℕ) × (lookup nodes q x ≡ Some y) × (walk nodes y rest ≡ Ok z)
walk_first nodes q x rest z h =
    let first = bind_ok (step_to nodes q x) (λ next. walk nodes next rest) z h in
    (first.0, step_back x (map.get nodes q) first.0 first.1, first.2)

walk_push : (nodes : Nodes) (q : ℕ) (front : List FileName) (name : FileName) (m z : ℕ) → walk nodes q front ≡ Ok m → lookup nodes m name ≡ Some z → walk nodes q (front ++ name ∷ []) ≡ Ok z
walk_push nodes q [] name m z walked means = let e : q ≡ m = cc in walk_on nodes q name [] z (ap (λ (k : ℕ). lookup nodes k name) e ∙ means)
walk_push nodes q (x ∷ front) name m z walked means =
    let first = walk_first nodes q x front m walked in
    walk_on nodes q x (front ++ name ∷ []) first.0 first.1 ∙ walk_push nodes first.0 front name m z first.2 means

-- ---- numbers that are left

abbrev other_than : ℕ → ℕ → Bool
other_than p y = not (y == p)

shorter_by : (t : Bool) (y : ℕ) (fewer ys : List ℕ) → length fewer ≤ length ys → length (cond (not t) (y ∷ fewer) fewer) ≤ suc (length ys)
shorter_by true y fewer ys h = omega arith
shorter_by false y fewer ys h = omega arith

no_longer : (p : ℕ) (ys : List ℕ) → length (filter (other_than p) ys) ≤ length ys
no_longer p [] = omega arith
no_longer p (y ∷ ys) = shorter_by (y == p) y (filter (other_than p) ys) ys (no_longer p ys)

fewer_by : (p y : ℕ) (ys : List ℕ) (t : Bool) → (y == p) ≡ t → (p == y) ≡ t → (among ys p ≡ true → length (filter (other_than p) ys) < length ys) → (t || among ys p) ≡ true
    → length (cond (not t) (y ∷ filter (other_than p) ys) (filter (other_than p) ys)) < suc (length ys)
fewer_by p y ys true e f rest h = omega (arith, no_longer p ys)
fewer_by p y ys false e f rest h = omega (arith, rest h)

flipped : (p y : ℕ) → (p == y) ≡ (y == p)
flipped p y = elim (cases_eq p y) [
  | inl e ↦ eq-eqb p y e ∙ sym (eq-eqb y p (sym e))
  | inr ne ↦ ne_eqb p y ne ∙ sym (ne_eqb y p (λ e. ne (sym e)))
]

-- one number less
fewer : (p : ℕ) (ys : List ℕ) → among ys p ≡ true → length (filter (other_than p) ys) < length ys
fewer p [] h = absurd cc
fewer p (y ∷ ys) h = fewer_by p y ys (y == p) refl (flipped p y) (fewer p ys) (ap (λ t. t || among ys p) (sym (flipped p y)) ∙ h)

left_by : (x p y : ℕ) (fewer ys : List ℕ) (t : Bool) → (y == p) ≡ t → x ≢ p → (among ys x ≡ true → among fewer x ≡ true) → ((x == y) || among ys x) ≡ true → among (cond (not t) (y ∷ fewer) fewer) x ≡ true
left_by x p y fewer ys true e ne rest h = elim (cases_eq x y) [
  | inl same ↦ absurd (let other = eq_of y p e in ne (same ∙ other))
  | inr apart ↦ rest (sym (ap (λ t. t || among ys x) (ne_eqb x y apart)) ∙ h)
]
  where
    eq_of : (y p : ℕ) → (y == p) ≡ true → y ≡ p
    eq_of y p e = elim (cases_eq y p) [
      | inl same ↦ same
      | inr apart ↦ absurd (let c : false ≡ true = sym (ne_eqb y p apart) ∙ e in cc)
    ]
left_by x p y fewer ys false e ne rest h = elim (cases_eq x y) [
  | inl same ↦ or_left (x == y) (among fewer x) (eq-eqb x y same)
  | inr apart ↦ or_right (x == y) (among fewer x) (rest (sym (ap (λ t. t || among ys x) (ne_eqb x y apart)) ∙ h))
]

-- each other one stays
left : (x p : ℕ) (ys : List ℕ) → x ≢ p → among ys x ≡ true → among (filter (other_than p) ys) x ≡ true
left x p [] ne h = absurd cc
left x p (y ∷ ys) ne h = left_by x p y (filter (other_than p) ys) ys (y == p) refl ne (left x p ys ne) h

among_numbers : (a n x : ℕ) → a ≤ x → x < a + n → among (numbers a n) x ≡ true
among_numbers a zero x low high = absurd (omega arith)
among_numbers a (suc n) x low high = elim (cases_eq x a) [
  | inl e ↦ or_left (x == a) (among (numbers (suc a) n) x) (eq-eqb x a e)
  | inr ne ↦ or_right (x == a) (among (numbers (suc a) n) x) (among_numbers (suc a) n x (omega arith) (omega arith))
]

-- ---- up to the root

module _ (s : State) (links : HasLinks s) (none : HasNoLoops s.tree.nodes) where
  abbrev nodes : Nodes
  nodes = s.tree.nodes

  abbrev bound : ℕ
  bound = 128 * s.layout.units

  -- where n was come to from below: each number is left, is n, or was come by
  abbrev IsOpen : List ℕ → ℕ → Type 0
  IsOpen rest n = (x : ℕ) → x < bound → (among rest x ≡ true) ⊎ ((x ≡ n) ⊎ Reaches nodes n x)

  reaches_one : (p : ℕ) (name : FileName) (n : ℕ) → lookup nodes p name ≡ Some n → Reaches nodes p n
  reaches_one p name n means = record { first = name; rest = []; walked = walk_on nodes p name [] n means }

  reaches_more : (p : ℕ) (name : FileName) (n x : ℕ) → lookup nodes p name ≡ Some n → Reaches nodes n x → Reaches nodes p x
  reaches_more p name n x means r = record { first = name; rest = r.first ∷ r.rest; walked = walk_on nodes p name (r.first ∷ r.rest) n means ∙ r.walked }

  -- a directory was not come by before what it has a name of
  not_below : (p : ℕ) (name : FileName) (n : ℕ) → lookup nodes p name ≡ Some n → ((p ≡ n) ⊎ Reaches nodes n p) → ⊥
  not_below p name n means (inl e) = none p (reaches_one p name p (means ∙ ap Some (sym e)))
  not_below p name n means (inr r) = none p (reaches_more p name n p means r)

  open_up : (rest : List ℕ) (p : ℕ) (name : FileName) (n : ℕ) → lookup nodes p name ≡ Some n → IsOpen rest n → IsOpen (filter (other_than p) rest) p
  open_up rest p name n means open_ x low = elim (open_ x low) [
    | inl there ↦ elim (cases_eq x p) [
      | inl e ↦ inr (inl e)
      | inr ne ↦ inl (left x p rest ne there)
    ]
    | inr met ↦ elim met [
      | inl e ↦ inr (inr (subst (Reaches nodes p) (sym e) (reaches_one p name n means)))
      | inr r ↦ inr (inr (reaches_more p name n x means r))
    ]
  ]

  push_reached : (p : ℕ) (name : FileName) (n : ℕ) → lookup nodes p name ≡ Some n → IsReached nodes p → IsReached nodes n
  push_reached p name n means r = record { names = r.names ++ name ∷ []; walked = walk_push nodes root r.names name p n r.walked means }

  parent : (n : ℕ) (d : Directory) → map.get nodes n ≡ Some (IsDirectory d) → n ≢ root → Parent nodes bound n
  parent n d there ne = parent_of nodes bound n (let one = directory_names s links n d there ne in omega arith)

  -- how each directory is reached that is come to with fewer numbers left
  abbrev Shorter : List ℕ → Type 0
  Shorter rest = (fewer_ : List ℕ) (m : ℕ) (d : Directory) → length fewer_ < length rest → IsOpen fewer_ m → map.get nodes m ≡ Some (IsDirectory d) → IsReached nodes m

  climb_up : (rest : List ℕ) (n : ℕ) → (p : Parent nodes bound n) → Shorter rest → IsOpen rest n → among rest p.at ≡ true → IsReached nodes n
  climb_up rest n p up open_ there =
      let d = named_directory p.name n (map.get nodes p.at) p.means in
      push_reached p.at p.name n p.means (up (filter (other_than p.at) rest) p.at d.0 (fewer p.at rest there) (open_up rest p.at p.name n p.means open_) d.1)

  climb_by : (rest : List ℕ) (n : ℕ) (d : Directory) → Shorter rest → IsOpen rest n → map.get nodes n ≡ Some (IsDirectory d) → IsReached nodes n
  climb_by rest n d up open_ there = elim (cases_eq n root) [
    | inl e ↦ record { names = []; walked = ap Ok (sym e) }
    | inr ne ↦
        let p = parent n d there ne in
        elim (open_ p.at p.low) [
          | inl left_ ↦ climb_up rest n p up open_ left_
          | inr met ↦ absurd (not_below p.at p.name n p.means met)
        ]
  ]

  climb : (fuel : ℕ) (rest : List ℕ) (n : ℕ) (d : Directory) → length rest ≤ fuel → IsOpen rest n → map.get nodes n ≡ Some (IsDirectory d) → IsReached nodes n
  climb zero rest n d few open_ there = climb_by rest n d (λ fewer_ m e less opened held. absurd (omega arith)) open_ there
  climb (suc fuel) rest n d few open_ there = climb_by rest n d (λ fewer_ m e less opened held. climb fuel fewer_ m e (omega arith) opened held) open_ there

  -- each directory is reached
  pub reached : (n : ℕ) (d : Directory) → map.get nodes n ≡ Some (IsDirectory d) → IsReached nodes n
  reached n d there =
      climb (length (numbers 0 bound)) (numbers 0 bound) n d (omega arith) (λ x low. inl (among_numbers 0 bound x (omega arith) (omega arith))) there
