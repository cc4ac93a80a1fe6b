-- How batches join, and what the log says with one.
use Rattle.std.specs.Prelude.{◌≡◌, ◌⊎◌, ℕ, IsTrue, List, []}
use Rattle.std.specs.List.Sorted.{IsStrictlyIncreasing}
use Rattle.vx_layout.specs.Places.{Volume}
use Rattle.vx_layout.specs.LogForms.{AfterImage, LogState, overlay}
use Rattle.vx_log.specs.Batches.{sectors_of}
use Rattle.vx_log.specs.Batches.{with_notes}
use Rattle.vx_log.specs.NoteLaws.{NoteLaws}
use Rattle.vx_model.specs.Images.{Parsed, is_metadata, IsBatch, Says}
use Rattle.vx_stage.specs.Leads.{Leads}

pub record MergeLaws : Type 0 where
  pub one : (v : Volume) (old new : Parsed) (batch : List AfterImage) → IsBatch v old new batch → Leads v old new batch
  pub none : (v : Volume) (p : Parsed) → Leads v p p []
  pub joined : NoteLaws → (v : Volume) (a b c : Parsed) (first second : List AfterImage) → IsStrictlyIncreasing (sectors_of second) → Leads v a b first → Leads v b c second → Leads v a c (with_notes first second)
  pub covered : NoteLaws → (v : Volume) (old new : Parsed) (batch : List AfterImage) → IsStrictlyIncreasing (sectors_of batch) → Leads v old new batch
      → (s : ℕ) → IsTrue (is_metadata v new s) → IsTrue (is_metadata v old s) ⊎ ((x y : List ℕ) → overlay batch s x ≡ overlay batch s y)
  pub next : NoteLaws → (v : Volume) (old new : Parsed) (batch : List AfterImage) → IsStrictlyIncreasing (sectors_of batch) → Leads v old new batch → (r next : LogState) → Says v old r
      → ((s : ℕ) → IsTrue (is_metadata v new s) → IsTrue (next.is_metadata s)) → ((s : ℕ) → next.contents s ≡ overlay batch s (r.contents s)) → Says v new next
