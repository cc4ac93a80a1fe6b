-- A new file system is one on which a mount begins.
use Rattle.std.proofs.Common.{◌≡◌, ℕ, List, ◌∙◌, refl, inl, lit<, lit≤}
use Rattle.std.specs.Prelude.{IsTrue}
use Rattle.vx_dev.specs.Tape.{Tape, State as Device, now}
use Rattle.vx_dev.specs.Moments.{Told}
use Rattle.vx_dev.proofs.Claims.{told_weaker}
use Rattle.vx_layout.specs.Supers.{volume_of}
use Rattle.vx_layout.specs.declared.superblock.Super.{Super}
use Rattle.vx_mkfs.specs.Formats.{IsNewImage}
use Rattle.vx_model.specs.Contents.{parsed_of, IsFormatted}
use Rattle.vx_model.specs.Images as images
use Rattle.vx_model.specs.Images.{is_metadata, contents}
use Rattle.vx_wellformed.specs.WellFormed.{IsConsistent}
use Rattle.vx_model.specs.State.{State, directory_blocks, fresh_of}
use Rattle.vx_stage.specs.Kernels.{mounted_super, IsMounted, IsBegun}

module _ (v : Super) (device_sectors : ℕ) where
  abbrev pub new : State
  new = fresh_of v directory_blocks device_sectors

  pub mounted : IsConsistent new → IsMounted v new
  mounted consistent = record { consistent = consistent; log_blocks = refl; units = refl }

  module _ (stands : (image : ℕ → List ℕ) → IsFormatted (volume_of v) image → images.Stands (volume_of v) (parsed_of new) image)
      (holds : (image : ℕ → List ℕ) → images.Stands (volume_of v) (parsed_of new) image → (q : ℕ) → IsTrue (is_metadata (volume_of v) (parsed_of new) q) → image q ≡ contents (volume_of v) (parsed_of new) q) where
    new_begun : (t : Tape) → IsNewImage (mounted_super v) t → IsBegun v new 1 0 t
    new_begun t is = record {
      level = record {
        metadata = λ q x there may. is.one q x may ∙ holds (now t) (stands (now t) is.units) q there;
        head = λ x may. is.one 2 x may ∙ is.head;
        superblock = λ x may. inl (is.one 0 x may ∙ is.superblock);
        serial_limit = lit< tt;
        limit = lit≤ tt;
      };
      mounted = λ x may. is.one 0 x may ∙ is.superblock;
    }

    pub told_begun : (d : Device) → Told d (IsNewImage (mounted_super v)) → Told d (IsBegun v new 1 0)
    told_begun d told = told_weaker d (IsNewImage (mounted_super v)) (IsBegun v new 1 0) new_begun told
