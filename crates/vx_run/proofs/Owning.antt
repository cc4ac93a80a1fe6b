-- Where no file has bytes, an image replays as the state's own tree.
use Rattle.std.proofs.Common.{◌≡◌, ℕ, List, Option, Some, None, subst}
use Rattle.std.specs.Prelude.{IfSome}
use Rattle.vx_dev.specs.Moments.{Told, Always}
use Rattle.vx_dev.specs.Tape as dev
use Rattle.vx_dev.specs.Tape.{Tape}
use Rattle.vx_model.specs.LaidOut.{IsLaidOut, IsPlain}
use Rattle.vx_model.specs.Replays.{IsLeft, ReplaysAs}
use Rattle.vx_model.specs.Settled.{IsLeftSettled, IsSettledTree, ReplaysSettled}
use Rattle.vx_model.specs.State.{State}
use Rattle.vx_model.specs.Tree.{Tree}

-- the law of the model that says so
abbrev pub IsOwnTree : Type 0
IsOwnTree = (s : State) (data_at : ℕ → List ℕ) (t : Tree) → IsLaidOut s → IsPlain s → IsSettledTree s data_at t → t ≡ s.tree

module _ (own : IsOwnTree) (s : State) (laid_out : IsLaidOut s) (plain : IsPlain s) where
  own_image : (image : ℕ → List ℕ) → ReplaysSettled s image → ReplaysAs s.layout.device_sectors image s.tree
  own_image image r = subst (ReplaysAs s.layout.device_sectors image) (own s _ r.tree laid_out plain r.settled) r.replays

  -- at every moment
  pub kept_own : (d : dev.State) (first : ℕ) → Told d (Always first (λ m image. ReplaysSettled s image)) → Told d (Always first (λ m image. ReplaysAs s.layout.device_sectors image s.tree))
  kept_own d first told = by_cases d.told told
    where
      by_cases : (x : Option Tape) → IfSome x (Always first (λ m image. ReplaysSettled s image)) → IfSome x (Always first (λ m image. ReplaysAs s.layout.device_sectors image s.tree))
      by_cases None is = tt
      by_cases (Some t) is = λ m from to image at. own_image image (is m from to image at)

  pub left_own : (t : Tape) → IsLeftSettled s t → IsLeft s.layout.device_sectors s.tree t
  left_own t is = subst (λ (tree : Tree). IsLeft s.layout.device_sectors tree t) (own s _ is.tree laid_out plain is.settled) is.left
