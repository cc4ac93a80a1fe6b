-- What a replay rests on: laws of the tape, of the log and of images.
use Rattle.std.specs.Prelude.{◌≡◌, ◌≢◌, ◌⊎◌, ◌<◌, ◌≤◌, ◌+◌, ◌*◌, ◌^◌, ℕ, Bool, IsTrue, List, Contains}
use Rattle.std.specs.List.{AllByRecursion}
use Rattle.vx_dev.specs.declared.device.Operation.{Operation}
use Rattle.vx_dev.specs.declared.device.Operation.TheVariants.{Put, Barrier}
use Rattle.vx_dev.specs.Laws.{TapeLaws}
use Rattle.vx_dev.specs.Tape.{Tape, State, Did, Failed, Writes, did, IsImage}
use Rattle.vx_layout.specs.declared.superblock.Super.{Super}
use Rattle.vx_layout.specs.LogForms.{AfterImage, IsRecord, LogState, ReadsAs, head_of, head_sector, log_sectors, overlay_all}
use Rattle.vx_layout.specs.Places.{Volume, outside, place_of, IsVolume}
use Rattle.vx_layout.specs.Supers.{IsSuper, super_bytes, volume_of}
use Rattle.vx_log.specs.Crashes.{Holds, Stands, Either, Turns, IsFree, IsPutHome, IsStableHome, IsHome, emptied}
use Rattle.vx_dev.specs.Moments.{Told, Passed, HoldsOneOf, AreAmong}
use Rattle.vx_dev.specs.Runs.{Ran, BrokeOff, puts}
use Rattle.vx_log.specs.Stages.{AreHomes, AreWritten}
use Rattle.vx_log.specs.NoteLaws.{NoteLaws}
use Rattle.vx_replay.specs.Holding.{HoldsTree}
use Rattle.vx_model.specs.Tree.{Tree}

pub record ReplayLaws : Type 0 where
  pub tape : TapeLaws
  pub notes : NoteLaws
  -- ---- the log
  pub image_reads : (n : ℕ) (r : LogState) (t : Tape) (image : ℕ → List ℕ) → Stands n r t → IsImage t image → ReadsAs n r image
  pub written : (n : ℕ) (r : LogState) (t : Tape) (op : Operation) (u : ℕ) (bytes : List ℕ) → Writes op u bytes → IsFree n r u → u ≢ 2 → Stands n r t → Stands n r (did op t)
  pub barrier : (n : ℕ) (r : LogState) (t : Tape) → Stands n r t → Stands n r (did Barrier t)
  pub fewer : (n : ℕ) (r : LogState) (is_metadata : ℕ → Bool) (t : Tape) → ((s : ℕ) → IsTrue (is_metadata s) → IsTrue (r.is_metadata s)) → Stands n r t → Stands n (record r { is_metadata = is_metadata }) t
  pub homes : (n : ℕ) (r : LogState) (writes : List (ℕ × List ℕ)) (old new : State) → 0 < n → AreHomes r writes → Ran (puts writes) old new
      → Told old (Stands n r) → Told new (AreWritten n r writes) × Passed (ReadsAs n r) old new
  pub homes_broken : (n : ℕ) (r : LogState) (writes : List (ℕ × List ℕ)) (old new : State) → 0 < n → AreHomes r writes → BrokeOff writes old new
      → Told old (Stands n r) → Passed (ReadsAs n r) old new
  -- ---- the head sector
  pub either : (n : ℕ) (r r2 : LogState) (t : Tape) (image : ℕ → List ℕ) → Either n r r2 t → IsImage t image → ReadsAs n r image ⊎ ReadsAs n r2 image
  pub home_stable : (r : LogState) (s : ℕ) (t : Tape) → IsPutHome r s t → IsStableHome r s (did Barrier t)
  pub all_home : (n : ℕ) (r : LogState) (t : Tape) → Holds n r t → ((s : ℕ) → IsTrue (r.is_metadata s) → ((x : List ℕ) → overlay_all r.records s x ≡ x) ⊎ IsStableHome r s t) → IsHome r t
  pub emptied : (n : ℕ) (r : LogState) (t : Tape) → IsHome r t → Holds n r t → Holds n (emptied r) t
  pub head_written : (n : ℕ) (r r2 : LogState) (old new : State) → Did (Put 2 (head_of r2)) old new → Told old (λ t. Stands n r t × Holds n r2 t) → Told new (Turns n r r2)
  pub head_failed : (n : ℕ) (r r2 : LogState) (old new : State) → Failed 2 (head_of r2) old new → Told old (λ t. Stands n r t × Holds n r2 t) → Told new (Either n r r2)
  pub head_passed : (n : ℕ) (r r2 : LogState) (old new : State) → Did Barrier old new → Told old (Turns n r r2) → Told new (Stands n r2)
  -- ---- one sector
  pub values : (s : ℕ) (values : List (List ℕ)) (writes : List (ℕ × List ℕ)) (old new : State) → AreAmong s values writes → Ran (puts writes) old new
      → Told old (HoldsOneOf s values) → Told new (HoldsOneOf s values) × Passed (λ image. Contains values (image s)) old new
  pub values_broken : (s : ℕ) (values : List (List ℕ)) (writes : List (ℕ × List ℕ)) (old new : State) → AreAmong s values writes → BrokeOff writes old new
      → Told old (HoldsOneOf s values) → Passed (λ image. Contains values (image s)) old new
  -- ---- what is spelled alike is the same
  pub supers : (v w : Super) → IsSuper v → IsSuper w → super_bytes v ≡ super_bytes w → v ≡ w
  pub heads : (serial tail head serial2 tail2 head2 : ℕ) → tail < 2 ^ 64 → head < 2 ^ 64 → tail2 < 2 ^ 64 → head2 < 2 ^ 64
      → head_sector serial tail head ≡ head_sector serial2 tail2 head2 → (tail ≡ tail2) × (head ≡ head2)
  pub records : (n size more position : ℕ) (rs qs : List (List AfterImage)) → AllByRecursion (IsRecord n size) rs → AllByRecursion (IsRecord n more) qs → log_sectors position rs ≡ log_sectors position qs → rs ≡ qs
  -- ---- images
  pub volume : (v : Super) → IsVolume (volume_of v)
  pub past_log : (v : Super) (s : ℕ) → place_of (volume_of v) s ≢ outside → 4 + 2 * v.log_blocks ≤ s
  pub alike : (v : Volume) (a b : ℕ → List ℕ) (t : Tree) → IsVolume v → ((s : ℕ) → place_of v s ≢ outside → a s ≡ b s) → HoldsTree v a t → HoldsTree v b t
