-- Walks by their last name, and with one name more.
use Rattle.std.proofs.Common.{◌≡◌, ℕ, true, false, List, [], ◌∷◌, ◌++◌, Some, Ok, refl, sym, ap, ◌∙◌, inl, inr}
use Rattle.std.specs.Prelude.{◌⊎◌, ◌&&◌, not, bytes_eq}
use Rattle.std.proofs.lemmas.List.{append_assoc}
use Rattle.std.proofs.lemmas.Slice.Eq.{bytes_eq-Decides}
use Rattle.vx_base.specs.Paths.{FileName}
use Rattle.vx_model.specs.Tree.{Nodes}
use Rattle.vx_model.specs.Walks.{walk}
use Rattle.vx_model.specs.Moving.{begins_with, is_below}
use Rattle.vx_model.specs.NameLaws.{lookup, HasNoLoops}
use Rattle.vx_model.proofs.Lookups.{walk_first, walk_on, walk_append, walk_more}

-- ---- the last name

pub record Last (names : List FileName) : Type 0 where
  pub front : List FileName
  pub name : FileName
  pub is : names ≡ front ++ name ∷ []

pub last_of : (name : FileName) (rest : List FileName) → Last (name ∷ rest)
last_of name [] = record { front = []; name = name; is = refl }
last_of name (next ∷ rest) =
    let l = last_of next rest in
    record { front = name ∷ l.front; name = l.name; is = ap (λ names. name ∷ names) l.is }

-- a walk's last step
pub walk_last : (nodes : Nodes) (q : ℕ) (front : List FileName) (name : FileName) (z : ℕ) → walk nodes q (front ++ name ∷ []) ≡ Ok z → (m : ℕ) × (walk nodes q front ≡ Ok m) × (lookup nodes m name ≡ Some z)
walk_last nodes q [] name z h =
    let first = walk_first nodes q name [] z h in
    let e : first.0 ≡ z = cc in
    (q, refl, first.1 ∙ ap Some e)
walk_last nodes q (x ∷ front) name z h =
    let first = walk_first nodes q x (front ++ name ∷ []) z h in
    let rest = walk_last nodes first.0 front name z first.2 in
    (rest.0, walk_on nodes q x front first.0 first.1 ∙ rest.1, rest.2)

pub walk_push : (nodes : Nodes) (q : ℕ) (front : List FileName) (name : FileName) (m z : ℕ) → walk nodes q front ≡ Ok m → lookup nodes m name ≡ Some z → walk nodes q (front ++ name ∷ []) ≡ Ok z
walk_push nodes q front name m z walked means = walk_append nodes q front (name ∷ []) m walked ∙ walk_on nodes m name [] z means

-- ---- paths that begin with others

same_bytes : (xs : List ℕ) → bytes_eq xs xs ≡ true
same_bytes xs = (bytes_eq-Decides xs xs).1 refl

begins_here : (a b : List FileName) → begins_with a (a ++ b) ≡ true
begins_here [] b = refl
begins_here (x ∷ a) b = ap (λ t. t && begins_with a (a ++ b)) (same_bytes x) ∙ begins_here a b

not_longer : (a : List FileName) (y : FileName) (b : List FileName) → begins_with (a ++ y ∷ b) a ≡ false
not_longer [] y b = refl
not_longer (x ∷ a) y b = ap (λ t. t && begins_with (a ++ y ∷ b) a) (same_bytes x) ∙ not_longer a y b

below_by : (a : List FileName) (y : FileName) (b : List FileName) → is_below a (a ++ y ∷ b) ≡ true
below_by a y b = ap (λ t. t && not (begins_with (a ++ y ∷ b) a)) (begins_here a (y ∷ b)) ∙ ap not (not_longer a y b)

-- a path is above each longer one
pub longer_below : (a b : List FileName) (name : FileName) → is_below a ((a ++ b) ++ name ∷ []) ≡ true
longer_below a [] name = ap (is_below a) (append_assoc a [] (name ∷ [])) ∙ below_by a name []
longer_below a (y ∷ b) name = ap (is_below a) (append_assoc a (y ∷ b) (name ∷ [])) ∙ below_by a y (b ++ name ∷ [])

-- ---- one name more

-- a name that means something meant it before, or is a new one of this directory for this inode
abbrev pub OneMore : Nodes → Nodes → ℕ → ℕ → Type 0
OneMore old new at ino = (q : ℕ) (x : FileName) (y : ℕ) → lookup new q x ≡ Some y → (lookup old q x ≡ Some y) ⊎ ((q ≡ at) × (y ≡ ino))

-- a walk by the new name walked to the directory before, and on from the inode
pub record Crosses (nodes : Nodes) (at ino q z : ℕ) : Type 0 where
  pub before : List FileName
  pub behind : List FileName
  pub to_it : walk nodes q before ≡ Ok at
  pub on : walk nodes ino behind ≡ Ok z

module _ (old new : Nodes) (at ino : ℕ) (more : OneMore old new at ino) where
  walk_by : (q : ℕ) (x : FileName) (rest : List FileName) (y z : ℕ) → (lookup old q x ≡ Some y) ⊎ ((q ≡ at) × (y ≡ ino)) → (walk old y rest ≡ Ok z) ⊎ Crosses old at ino y z
      → (walk old q (x ∷ rest) ≡ Ok z) ⊎ Crosses old at ino q z
  walk_by q x rest y z (inl means) (inl walked) = inl (walk_on old q x rest y means ∙ walked)
  walk_by q x rest y z (inl means) (inr c) = inr (record { before = x ∷ c.before; behind = c.behind; to_it = walk_on old q x c.before y means ∙ c.to_it; on = c.on })
  walk_by q x rest y z (inr here) (inl walked) = inr (record { before = []; behind = rest; to_it = ap Ok here.0; on = ap (λ (k : ℕ). walk old k rest) (sym here.1) ∙ walked })
  walk_by q x rest y z (inr here) (inr c) = inr (record { before = []; behind = c.behind; to_it = ap Ok here.0; on = c.on })

  pub crossed : (q : ℕ) (names : List FileName) (z : ℕ) → walk new q names ≡ Ok z → (walk old q names ≡ Ok z) ⊎ Crosses old at ino q z
  crossed q [] z h = inl h
  crossed q (x ∷ rest) z h =
      let first = walk_first new q x rest z h in
      walk_by q x rest first.0 z (more q x first.0 first.1) (crossed first.0 rest z first.2)

  -- no loop comes with the name where the inode didn't lead to the directory
  pub no_loop_more : HasNoLoops old → ((names : List FileName) → walk old ino names ≡ Ok at → ⊥) → HasNoLoops new
  no_loop_more none apart i r =
      elim (crossed i (r.first ∷ r.rest) i r.walked) [
        | inl before ↦ none i (record { first = r.first; rest = r.rest; walked = before })
        | inr c ↦ apart (c.behind ++ c.before) (walk_append old ino c.behind c.before i c.on ∙ c.to_it)
      ]

-- nor with fewer names
pub no_loop_less : (old new : Nodes) → ((q : ℕ) (x : FileName) (y : ℕ) → lookup new q x ≡ Some y → lookup old q x ≡ Some y) → HasNoLoops old → HasNoLoops new
no_loop_less old new less none i r = none i (record { first = r.first; rest = r.rest; walked = walk_more new old less i (r.first ∷ r.rest) i r.walked })
