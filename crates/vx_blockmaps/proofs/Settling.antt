-- Map blocks that a file does not need wait.
use Rattle.std.proofs.Common.{◌≡◌, ℕ, ◌+◌, Bool, true, false, cond, List, ◌++◌, Some, inl, inr, refl, sym, ◌∙◌, ap, arith}
use Rattle.std.proofs.lemmas.List.{take-append-drop}
use Rattle.vx_alloc.specs.FreeMaps.{FreeMapView, is_in_set}
use Rattle.vx_filemaps.specs.Settles.{CanWait, pended}
use Rattle.vx_filemaps.specs.GiveLaws.{GiveLaws, AreUsed, AreWaiting}
use Rattle.vx_space.specs.Space.{Space, page_blocks, maps_needed}
use Rattle.vx_space.specs.Leaving.{kept_maps, surplus_maps}
use Rattle.vx_space.specs.Uses.{uses}
use Rattle.vx_model.specs.Images.{among}
use Rattle.vx_model.specs.Layout.{Layout, blocks_at, space_at, maps_at, block_numbers, owned}
use Rattle.vx_model.specs.LaidOut.{IsOnceUsed}
use Rattle.vx_model.proofs.Uses.{uses_append, not_among, among_uses}
use Rattle.vx_model.specs.Opened.{left_with}
use Rattle.vx_model.proofs.Changing.{owned_here}
use Rattle.vx_blockmaps.specs.BlockMaps.{IsFreeMapOf}
use Rattle.vx_blockmaps.proofs.Blocks.{owned_used, ready, sized}
use Rattle.vx_blockmaps.proofs.Fates.{Fate, free_after}
use Rattle.vx_blockmaps.proofs.Leaving.{same_among, owned_uses, map_owned, less_at}

module _ (give : GiveLaws) (l : Layout) (once : IsOnceUsed l) (at : ℕ) (v : FreeMapView) (is : IsFreeMapOf v l) (y : Space) (place : ℕ) where
  abbrev gone : List ℕ
  gone = surplus_maps y (maps_at l at)

  parts : (b : ℕ) → uses (kept_maps y (maps_at l at)) b + uses gone b ≡ uses (maps_at l at) b
  parts b =
      let both = uses_append (kept_maps y (maps_at l at)) gone b in
      let all : uses (kept_maps y (maps_at l at) ++ gone) b ≡ uses (maps_at l at) b = ap (λ (ms : List ℕ). uses ms b) (take-append-drop (maps_needed y) (maps_at l at)) in
      omega (arith, both, all)

  are_used : AreUsed gone v
  are_used = record {
    used = λ b some. owned_used v l is once at b (map_owned l at b (let both = parts b in omega (arith, both, some)));
    once = λ b. (let both = parts b in let all = owned_uses l at b in let few = once.apart at b in omega (arith, both, all, few));
  }

  pub can_settle : CanWait place gone v
  can_settle = give.can_wait place gone v (sized v l is) are_used

  abbrev after : FreeMapView
  after = pended place gone v

  module _ (present : y.present ≡ (space_at l at).present) where
    abbrev k : Layout
    k = left_with l place at y (kept_maps y (maps_at l at)) gone

    now_uses : (b : ℕ) → uses (owned k at) b + uses gone b ≡ uses (owned l at) b
    now_uses b =
        let here : uses (owned k at) b ≡ uses (block_numbers (blocks_at l at) ++ (page_blocks (space_at l at).present ++ kept_maps y (maps_at l at))) b =
        ap (λ (bs : List ℕ). uses bs b) (owned_here l at y (kept_maps y (maps_at l at)) k.pending) ∙ ap (λ ms. uses (block_numbers (blocks_at l at) ++ (page_blocks ms ++ kept_maps y (maps_at l at))) b) present in
        let all = uses_append (block_numbers (blocks_at l at)) (page_blocks (space_at l at).present ++ kept_maps y (maps_at l at)) b in
        let rest = uses_append (page_blocks (space_at l at).present) (kept_maps y (maps_at l at)) b in
        let both = parts b in
        let was = owned_uses l at b in
        omega (arith, here, all, rest, both, was)

    waiting : AreWaiting place gone v after
    waiting = give.wait place gone v (sized v l is) are_used

    same_rest : after ≡ record v { free = after.free; pending = after.pending }
    same_rest = waiting.rest ∙ ap (λ (xs : List Bool). record v { free = xs; pending = after.pending }) (sym (ap (λ (w : FreeMapView). w.free) waiting.rest))

    fate : (b : ℕ) (t : Bool) → among gone b ≡ t → Fate l k v after at place b
    fate b true hit = inl (record { pending = ap (λ t. cond t (Some place) (l.pending b)) hit; waits = waiting.wait b (among_uses gone b hit) })
    fate b false miss =
        let none = not_among gone b miss in
        let all = now_uses b in
        inr (inr (record {
          same = same_among (owned k at) (owned l at) b (omega (arith, all, none));
          pending = ap (λ t. cond t (Some place) (l.pending b)) miss;
          place = waiting.others b none;
          bit = ap (λ (w : FreeMapView). is_in_set w b) waiting.rest;
        }))

    pub settle_free : IsFreeMapOf after k
    settle_free =
        free_after l k v after once is (ready v l is) at place (less_at l at y (kept_maps y (maps_at l at)) k.pending)
        (record { rest = same_rest; sized = waiting.sized; ready = waiting.ready }) (λ b. fate b (among gone b) refl)
