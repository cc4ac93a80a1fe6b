-- The last name on a path.
use Rattle.std.proofs.Common.{◌≡◌, ℕ, List, [], ◌∷◌, ◌++◌, Option, Some, Ok, Err, refl, ap, sym, ◌∙◌}
use Rattle.vx_base.specs.Paths.{FileName}
use Rattle.vx_base.specs.declared.refusal.Refusal.{Refusal}
use Rattle.vx_base.specs.declared.refusal.Refusal.TheVariants as no
use Rattle.vx_model.specs.Outcome.{Maybe, ◌>>=◌, need}
use Rattle.vx_model.specs.Tree.{Node}
use Rattle.vx_model.specs.State.{State}
use Rattle.vx_model.specs.Walks.{root, walk}
use Rattle.vx_model.specs.Making.{make_at, make_along}
use Rattle.vx_model.specs.Paths.{PathEnd, path_end, path_end_from}

from_push : (first : FileName) (above : List FileName) (name : FileName) → path_end_from first (above ++ name ∷ []) ≡ record { above = first ∷ above; name = name }
from_push first [] name = refl
from_push first (next ∷ above) name = ap (λ (e : PathEnd). record { above = first ∷ e.above; name = e.name }) (from_push next above name)

pub path_end-push : (above : List FileName) (name : FileName) → path_end (above ++ name ∷ []) ≡ Some (record { above = above; name = name })
path_end-push [] name = refl
path_end-push (first ∷ above) name = ap Some (from_push first above name)

module _ (s : State) (node : Node) (names above : List FileName) (name : FileName) (are : names ≡ above ++ name ∷ []) where
  along : make_along s node names ≡ (walk s.tree.nodes root above >>= make_at s name node)
  along = ap (make_along s node) are ∙ ap (λ (end : Option PathEnd). need end no.Exist >>= (λ e. walk s.tree.nodes root e.above >>= make_at s e.name node)) (path_end-push above name)

  pub along_ok : (at : ℕ) → Ok at ≡ walk s.tree.nodes root above → make_along s node names ≡ make_at s name node at
  along_ok at is = along ∙ ap (λ (m : Maybe ℕ). m >>= make_at s name node) (sym is)

  pub along_err : (why : Refusal) → Err why ≡ walk s.tree.nodes root above → make_along s node names ≡ Err why
  along_err why is = along ∙ ap (λ (m : Maybe ℕ). m >>= make_at s name node) (sym is)
