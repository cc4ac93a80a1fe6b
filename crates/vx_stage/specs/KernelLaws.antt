-- What the stages rest on: laws of the tape, of the log and of images.
use Rattle.std.specs.Prelude.{true, is_some, ◌≡◌, ◌⊎◌, ◌*◌, ◌<◌, ◌≤◌, ◌+◌, ◌^◌, option_map, ℕ, Bool, false, IsTrue, List, length, Contains, slice_range}
use Rattle.std.specs.List.{AllByRecursion}
use Rattle.std.specs.List.Sorted.{IsStrictlyIncreasing}
use Rattle.vx_dev.specs.declared.device.Operation.TheVariants.{Put, Barrier}
use Rattle.vx_dev.specs.Laws.{TapeLaws}
use Rattle.vx_dev.specs.Tape.{Tape, State as Device, Did, Failed, IsImage, did}
use Rattle.vx_layout.specs.LogForms.{AfterImage, IsNameable, IsRecord, LogState, ReadsAs, log_length, body_of, records_of, overlay, overlay_all, head_of, head_sector}
use Rattle.vx_sound.specs.Reading.{form_bytes}
use Rattle.vx_model.specs.Waiting.{IsNamed}
use Rattle.vx_layout.specs.Places.{is_data, block_sector, sector_part, sectors_of as volume_sectors}
use Rattle.vx_layout.specs.Supers.{IsSuper, volume_of}
use Rattle.vx_layout.specs.declared.superblock.Super.{Super}
use Rattle.vx_log.specs.Batches.{sectors_of}
use Rattle.vx_log.specs.Crashes.{Holds, Stands, Either, Turns, IsApart, Covers, IsDecided, IsCertainBody, IsPut, IsPutHome, IsStableHome, IsHome, grown, emptied}
use Rattle.vx_log.specs.Logs.{next_serial}
use Rattle.vx_dev.specs.Moments.{Told, Passed}
use Rattle.vx_dev.specs.Runs.{Ran, BrokeOff, puts}
use Rattle.vx_log.specs.Writes.{log_writes}
use Rattle.vx_log.specs.Stages.{IsBodyPut, IsFitting, AreHomes, AreWritten}
use Rattle.vx_log.specs.NoteLaws.{NoteLaws}
use Rattle.vx_model.specs.AllowedLaws.{AllowedLaws}
use Rattle.vx_model.specs.Contents.{parsed_of}
use Rattle.vx_model.specs.Images as images
use Rattle.vx_model.specs.Images.{Parsed, content_at, is_metadata, Says}
use Rattle.vx_model.specs.LaidOut.{IsLaidOut}
use Rattle.vx_model.specs.Legal.{with_released}
use Rattle.vx_model.specs.Layout.{volume}
use Rattle.vx_model.specs.Reads.{ImageReadsAs}
use Rattle.vx_model.specs.Settled.{IsSettledTree}
use Rattle.vx_model.specs.Shapes.{shape}
use Rattle.vx_model.specs.Tree.{Tree}
use Rattle.vx_sound.specs.Said.{block_bytes}
use Rattle.vx_model.specs.State.{State}
use Rattle.vx_sound.specs.Sound.{IsSound}
use Rattle.vx_wellformed.specs.WellFormed.{IsConsistent}

pub record KernelLaws : Type 0 where
  -- ---- images
  pub past_log : (v : Super) (p : Parsed) (s : ℕ) → IsTrue (is_metadata (volume_of v) p s) → 4 + 2 * v.log_blocks ≤ s
  pub sizes_fit : (v : Super) → IsSuper v → volume_sectors (volume_of v) ≤ 2 ^ 32
  pub says_stands : (v : Super) (p : Parsed) (r : LogState) (image : ℕ → List ℕ) → Says (volume_of v) p r → ReadsAs (2 * v.log_blocks) r image → images.Stands (volume_of v) p (λ s. overlay_all r.records s (image s))
  pub parts : (v : Super) (p : Parsed) (b i : ℕ) → IsTrue (is_data (volume_of v) b) → i < 2
      → content_at (volume_of v) p (block_sector 2 b + i) ≡ option_map (λ x. sector_part i (form_bytes 1024 x)) (p.forms b)
  -- and a block with a form is one of the metadata
  pub formed : (s : State) (b : ℕ) → is_some ((parsed_of s).forms b) ≡ true → IsNamed s b
  -- an image reads as the state's tree with what is settled of its files; there is one, with the state's names and attributes
  pub reads : (s : State) (image : ℕ → List ℕ) (t : Tree) → IsLaidOut s → images.Stands (volume s.layout) (parsed_of s) image → IsSettledTree s (block_bytes (volume s.layout) image) t → ImageReadsAs (volume s.layout) image t
  pub tree : (s : State) (data_at : ℕ → List ℕ) → IsLaidOut s → (t : Tree) × IsSettledTree s data_at t
  pub shape_is : (s : State) (data_at : ℕ → List ℕ) (t : Tree) → IsSettledTree s data_at t → (n : ℕ) → shape t n ≡ shape s.tree n
  pub sound : (s : State) (image : ℕ → List ℕ) → IsConsistent s → images.Stands (volume s.layout) (parsed_of s) image → IsSound false (volume s.layout) image
  pub released : (s : State) (upto : ℕ) → parsed_of (with_released s upto) ≡ parsed_of s
  -- ---- batches
  pub records : (batch : List AfterImage) (s : ℕ) (x : List ℕ) → overlay_all (records_of batch) s x ≡ overlay batch s x
  pub decides : (batch : List AfterImage) (s : ℕ) → Contains (sectors_of batch) s → IsDecided (records_of batch) s
  pub body_length : (position : ℕ) (batch : List AfterImage) → length (body_of position batch) ≡ log_length (length batch)
  pub form : (n size : ℕ) (batch : List AfterImage) → IsStrictlyIncreasing (sectors_of batch) → AllByRecursion (IsNameable n size) (sectors_of batch) → AllByRecursion (IsRecord n size) (records_of batch)
  -- ---- the log
  pub image_reads : (n : ℕ) (r : LogState) (t : Tape) (image : ℕ → List ℕ) → Stands n r t → IsImage t image → ReadsAs n r image
  pub image_either : (n : ℕ) (r r2 : LogState) (t : Tape) (image : ℕ → List ℕ) → Either n r r2 t → IsImage t image → ReadsAs n r image ⊎ ReadsAs n r2 image
  pub barrier : (n : ℕ) (r : LogState) (t : Tape) → Stands n r t → Stands n r (did Barrier t)
  pub fewer : (n : ℕ) (r : LogState) (is_metadata : ℕ → Bool) (t : Tape) → ((s : ℕ) → IsTrue (is_metadata s) → IsTrue (r.is_metadata s)) → Stands n r t → Stands n (record r { is_metadata = is_metadata }) t
  pub certain : (n position : ℕ) (body : List (List ℕ)) (t : Tape) → IsPut n position body (length body) t → IsCertainBody n position body (did Barrier t)
  pub body : (n : ℕ) (r : LogState) (batch : List AfterImage) (from end : ℕ) (old new : Device) → IsFitting n r batch → from ≤ end → end ≤ length (body_of r.head batch)
      → Ran (puts (log_writes n (r.head + from) (slice_range (body_of r.head batch) from end))) old new
      → Told old (IsBodyPut n r batch from) → Told new (IsBodyPut n r batch end) × Passed (ReadsAs n r) old new
  pub body_broken : (n : ℕ) (r : LogState) (batch : List AfterImage) (from end : ℕ) (old new : Device) → IsFitting n r batch → from ≤ end → end ≤ length (body_of r.head batch)
      → BrokeOff (log_writes n (r.head + from) (slice_range (body_of r.head batch) from end)) old new
      → Told old (IsBodyPut n r batch from) → Passed (ReadsAs n r) old new
  pub holds_grown : (n : ℕ) (r : LogState) (batch : List AfterImage) (is_metadata : ℕ → Bool) (t : Tape) → IsApart n is_metadata → Covers r (records_of batch) is_metadata
      → r.head + log_length (length batch) ≤ r.tail + n → IsCertainBody n r.head (body_of r.head batch) t → Holds n r t → Holds n (grown r (records_of batch) is_metadata) t
  pub head_grown : (r : LogState) (batch : List AfterImage) (is_metadata : ℕ → Bool) → head_of (grown r (records_of batch) is_metadata) ≡ head_sector (next_serial r.serial) r.tail (r.head + log_length (length batch))
  pub holds_emptied : (n : ℕ) (r : LogState) (t : Tape) → IsHome r t → Holds n r t → Holds n (emptied r) t
  pub written : (n : ℕ) (r r2 : LogState) (old new : Device) → Did (Put 2 (head_of r2)) old new → Told old (λ t. Stands n r t × Holds n r2 t) → Told new (Turns n r r2)
  pub failed : (n : ℕ) (r r2 : LogState) (old new : Device) → Failed 2 (head_of r2) old new → Told old (λ t. Stands n r t × Holds n r2 t) → Told new (Either n r r2)
  pub passed : (n : ℕ) (r r2 : LogState) (old new : Device) → Did Barrier old new → Told old (Turns n r r2) → Told new (Stands n r2)
  -- ---- homes
  pub homes : (n : ℕ) (r : LogState) (writes : List (ℕ × List ℕ)) (old new : Device) → 0 < n → AreHomes r writes → Ran (puts writes) old new
      → Told old (Stands n r) → Told new (AreWritten n r writes) × Passed (ReadsAs n r) old new
  pub homes_broken : (n : ℕ) (r : LogState) (writes : List (ℕ × List ℕ)) (old new : Device) → 0 < n → AreHomes r writes → BrokeOff writes old new
      → Told old (Stands n r) → Passed (ReadsAs n r) old new
  pub stable : (r : LogState) (s : ℕ) (t : Tape) → IsPutHome r s t → IsStableHome r s (did Barrier t)
  pub home : (n : ℕ) (r : LogState) (t : Tape) → Holds n r t → ((s : ℕ) → IsTrue (r.is_metadata s) → ((x : List ℕ) → overlay_all r.records s x ≡ x) ⊎ IsStableHome r s t) → IsHome r t
  -- ---- the tape, and what is noted
  pub tape : TapeLaws
  pub notes : NoteLaws
  -- ---- the history
  pub allowed : AllowedLaws
