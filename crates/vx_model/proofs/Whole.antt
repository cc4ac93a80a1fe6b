-- After a settle nothing of the file is held.
use Rattle.std.proofs.Common.{◌≡◌, ℕ, List, length, Some, refl, sym, ap, ◌∙◌, subst, arith}
use Rattle.std.specs.FinMap as map
use Rattle.std.proofs.lemmas.List.{length-take}
use Rattle.vx_space.specs.Space.{Space, maps_needed}
use Rattle.vx_space.specs.Leaving.{lasting, kept_maps, surplus_maps}
use Rattle.vx_model.specs.Outcome.{Maybe}
use Rattle.vx_model.specs.Tree.{File, IsFile}
use Rattle.vx_model.specs.Layout.{Layout, space_at, maps_at, pended}
use Rattle.vx_model.specs.State.{State}
use Rattle.vx_model.specs.LaidOut.{IsLaidOut, is_unreserved}
use Rattle.vx_model.specs.Settling.{space_settled, settled_layout, settle_file, settle, HoldsNone}
use Rattle.vx_model.proofs.Changing.{file_held, space_here, maps_here}
use Rattle.vx_model.proofs.Pages.{fewer_maps}
use Rattle.vx_model.proofs.Spaces.{lasting_fewer}
use Rattle.vx_model.proofs.FileSuccesses.{file_found}

abbrev IsWhole : State → ℕ → File → Type 0
IsWhole s ino f = HoldsNone s.layout ino f × ((space_at s.layout ino).size ≡ length f.bytes)

-- the space that is settled, with its map blocks, has nothing that is held
whole_with : (l : Layout) (ino : ℕ) (f : File) (y : Space) (maps : List ℕ) → space_at l ino ≡ y → maps_at l ino ≡ maps → lasting (is_unreserved f) y.present ≡ y.settled → length maps ≡ maps_needed y → y.size ≡ length f.bytes
    → HoldsNone l ino f × ((space_at l ino).size ≡ length f.bytes)
whole_with l ino f y maps space is_maps pages count size = (
  record {
    pages = ap (λ (x : Space). lasting (is_unreserved f) x.present) space ∙ pages ∙ ap (λ (x : Space). x.settled) (sym space);
    maps = ap (λ (ms : List ℕ). length ms) is_maps ∙ count ∙ ap maps_needed (sym space);
  },
  ap (λ (x : Space). x.size) space ∙ size,
)

pub settled_whole : (s : State) (place ino : ℕ) (f : File) → IsLaidOut s → map.get s.tree.nodes ino ≡ Some (IsFile f) → IsWhole (settle s place ino) ino f
settled_whole s place ino f is there =
    let held = file_held s is ino f there in
    let x : Space = space_at s.layout ino in
    let maps : List ℕ = maps_at s.layout ino in
    let y : Space = space_settled s.layout ino f in
    let pending = pended place (surplus_maps y maps) s.layout.pending in
    let fewer = fewer_maps (lasting (is_unreserved f) x.present) x.present (lasting_fewer (is_unreserved f) x.present) in
    let chain = held.0.space.chain in
    let long = length-take (maps_needed y) maps in
    subst (λ (m : Maybe File). IsWhole (settle_file s place ino m) ino f) (sym (file_found s.tree.nodes ino f there))
    (whole_with (settled_layout s.layout place ino f) ino f y (kept_maps y maps) (space_here s.layout ino y (kept_maps y maps) pending) (maps_here s.layout ino y (kept_maps y maps) pending) refl (omega (arith, fewer, chain, long)) refl)
