-- From what is shown to what a crash may leave.
use Rattle.std.proofs.Common.{◌≡◌, ◌<◌, ℕ, Bool, true, false, cond, List, length, get_or, Ok, refl, sym, ◌∙◌, ap, subst, arith}
use Rattle.std.specs.Prelude.{Option, Some, None, ◌==◌}
use Rattle.std.specs.Option.{option_and_then}
use Rattle.std.specs.FinMap as map
use Rattle.vx_base.specs.declared.event.Event.{Event}
use Rattle.vx_base.specs.declared.mode.Logging.{Logging}
use Rattle.vx_base.specs.declared.refusal.Refusal.TheVariants as why
use Rattle.vx_dev.specs.Tape.{Tape, IsImage}
use Rattle.vx_model.specs.Outcome.{need, ◌>>=◌}
use Rattle.vx_model.specs.Tree.{File, Node, IsFile, IsDirectory, Tree, Nodes}
use Rattle.vx_model.specs.Legal.{World}
use Rattle.vx_space.specs.Space.{Space}
use Rattle.vx_model.specs.Layout.{volume, space_at}
use Rattle.vx_model.specs.State.{State}
use Rattle.vx_model.specs.Reads.{bytes_of}
use Rattle.vx_sound.specs.Said.{block_bytes}
use Rattle.vx_model.specs.Settled.{settled_node, IsSettledTree}
use Rattle.vx_model.specs.Walks.{file_at, as_file}
use Rattle.vx_model.specs.Shapes.{kept_attrs}
use Rattle.vx_bytes.specs.Course.{May, SizeMay}
use Rattle.vx_bytes.specs.Stories.{size_course, byte_course}
use Rattle.vx_bytes.specs.Standings.{OnDevice, Standing, Reads, Shown, part_of, within}
use Rattle.vx_bytes.specs.Histories.{state_at, story}
use Rattle.vx_bytes.specs.Places.{place_of, sectors_of, byte_in}
use Rattle.vx_bytes.specs.Outcomes.{HasCandidates}
use Rattle.vx_bytes.proofs.Courses.{may_less, size_may_less}
use Rattle.vx_bytes.proofs.Reading.{AreWhole, bytes_long, bytes_read}

-- ---- the file that is found

pub file_found : (nodes : Nodes) (n : ℕ) (f : File) → file_at nodes n ≡ Ok f → map.get nodes n ≡ Some (IsFile f)
file_found nodes n f is = go (map.get nodes n) refl is
  where
    go : (x : Option Node) → map.get nodes n ≡ x → (need x why.NoEnt >>= as_file) ≡ Ok f → x ≡ Some (IsFile f)
    go None at is = absurd cc
    go (Some (IsFile g)) at is = (let same : g ≡ f = cc in ap (λ (h : File). Some (IsFile h)) same)
    go (Some (IsDirectory d)) at is = absurd cc

-- a file of the settled tree has the settled size and the bytes of its settled pages
settled_file : (data_at : ℕ → List ℕ) (x : Space) (o : Option Node) (f : File) → option_and_then (settled_node data_at x) o ≡ Some (IsFile f) → f.bytes ≡ bytes_of data_at x.settled x.size
settled_file data_at x None f is = absurd cc
settled_file data_at x (Some (IsDirectory d)) f is = absurd cc
settled_file data_at x (Some (IsFile g)) f is = by (g.nlink == 0) is
  where
    by : (t : Bool) → cond t None (Some (IsFile (record g { attrs = kept_attrs g.attrs; bytes = bytes_of data_at x.settled x.size }))) ≡ Some (IsFile f) → f.bytes ≡ bytes_of data_at x.settled x.size
    by true is = absurd cc
    by false is = (let same : f ≡ record g { attrs = kept_attrs g.attrs; bytes = bytes_of data_at x.settled x.size } = cc in ap (λ (h : File). h.bytes) same)

reads_image : (t : Tape) (image laid : ℕ → List ℕ) → IsImage t image → (place : Option ℕ) (i : ℕ) → ((u : ℕ) → place ≡ Some u → laid u ≡ image u) → Reads t place i (byte_in laid place i)
reads_image t image laid is None i same = refl
reads_image t image laid is (Some u) i same = (image u, is u, ap (λ (l : List ℕ). get_or l i 0) (sym (same u refl)))

module _ (mode : Logging) (o : World) (h : List Event) (k : ℕ) (standing : ℕ → Standing) (t : Tape) (image laid : ℕ → List ℕ) (tree : Tree)
    (at : (n : ℕ) → (standing n).k ≡ k) (place : (n : ℕ) → (standing n).place ≡ place_of (state_at o h k) n) (shown : (n : ℕ) → Shown (story mode o h n) (standing n) t)
    (is : IsImage t image) (same_bytes : (n p u : ℕ) → (place_of (state_at o h k) n).sectors p ≡ Some u → laid u ≡ image u) (sectors : (n p u : ℕ) → (place_of (state_at o h k) n).sectors p ≡ Some u → length (image u) ≡ 512) (settled : IsSettledTree (state_at o h k) (block_bytes (volume (state_at o h k).layout) laid) tree) where
  abbrev s : State
  s = state_at o h k

  whole : (n : ℕ) → AreWhole (sectors_of (space_at s.layout n).settled) laid
  whole n p u there = ap (λ (l : List ℕ). length l) (same_bytes n p u there) ∙ sectors n p u there

  bytes_are : (n : ℕ) (f : File) → file_at tree.nodes n ≡ Ok f → f.bytes ≡ bytes_of (block_bytes (volume s.layout) laid) (space_at s.layout n).settled (space_at s.layout n).size
  bytes_are n f found = settled_file (block_bytes (volume s.layout) laid) (space_at s.layout n) (map.get s.tree.nodes n) f (sym (settled.nodes n) ∙ file_found tree.nodes n f found)

  -- each file of the tree that the image replays as has a size and bytes that are candidates
  pub candidates_of : HasCandidates mode o h k tree
  candidates_of = record {
    sizes = λ n f found.
        let size_is : length f.bytes ≡ (space_at s.layout n).size = ap (λ (l : List ℕ). length l) (bytes_are n f found) ∙ bytes_long s.layout laid (space_at s.layout n).settled (whole n) (space_at s.layout n).size in
        let may : SizeMay 0 (size_course (story mode o h n)) (standing n).k (standing n).place.size = size_may_less 0 (omega arith) (shown n).size in
        subst (λ (x : ℕ). SizeMay 0 (size_course (story mode o h n)) k x) (sym size_is) (subst (λ (j : ℕ). SizeMay 0 (size_course (story mode o h n)) j (space_at s.layout n).size) (at n) (subst (λ (q : OnDevice). SizeMay 0 (size_course (story mode o h n)) (standing n).k q.size) (place n) may));
    bytes = λ n i f found lt.
        let is_bytes : f.bytes ≡ bytes_of (block_bytes (volume s.layout) laid) (space_at s.layout n).settled (space_at s.layout n).size = bytes_are n f found in
        let size_is : length f.bytes ≡ (space_at s.layout n).size = ap (λ (l : List ℕ). length l) is_bytes ∙ bytes_long s.layout laid (space_at s.layout n).settled (whole n) (space_at s.layout n).size in
        let below : i < (space_at s.layout n).size = subst (λ (x : ℕ). i < x) size_is lt in
        let byte_is : get_or f.bytes i 0 ≡ byte_in laid (sectors_of (space_at s.layout n).settled (part_of i)) (within i) = ap (λ (l : List ℕ). get_or l i 0) is_bytes ∙ bytes_read s.layout laid (space_at s.layout n).settled (whole n) (space_at s.layout n).size i below in
        let reads : Reads t (sectors_of (space_at s.layout n).settled (part_of i)) (within i) (byte_in laid (sectors_of (space_at s.layout n).settled (part_of i)) (within i)) = reads_image t image laid is (sectors_of (space_at s.layout n).settled (part_of i)) (within i) (λ u there. same_bytes n (part_of i) u there) in
        let below2 : i < (standing n).place.size = subst (λ (x : ℕ). i < x) (sym (ap (λ (q : OnDevice). q.size) (place n))) below in
        let reads2 : Reads t ((standing n).place.sectors (part_of i)) (within i) (byte_in laid (sectors_of (space_at s.layout n).settled (part_of i)) (within i)) = subst (λ (q : Option ℕ). Reads t q (within i) (byte_in laid (sectors_of (space_at s.layout n).settled (part_of i)) (within i))) (sym (ap (λ (q : OnDevice). q.sectors (part_of i)) (place n))) reads in
        subst (λ (x : ℕ). May 0 (byte_course (story mode o h n) i) k x) (sym byte_is) (subst (λ (j : ℕ). May 0 (byte_course (story mode o h n) i) j (byte_in laid (sectors_of (space_at s.layout n).settled (part_of i)) (within i))) (at n) (may_less 0 (omega arith) ((shown n).bytes i _ below2 reads2)));
  }
