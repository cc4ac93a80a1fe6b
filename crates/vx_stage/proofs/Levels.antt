-- An empty log: what its images replay as, and the superblock is put.
use Rattle.std.proofs.Common.{◌≡◌, ◌⊎◌, ℕ, ◌<◌, ◌≤◌, ◌^◌, Bool, true, false, List, [], length, Option, Some, None, refl, sym, ap, subst, ◌∙◌, arith, inl, inr}
use Rattle.std.specs.Prelude.{IfSome, IsTrue, is_some}
use Rattle.std.specs.Option.{unwrap_or}
use Rattle.vx_dev.specs.declared.device.Operation.{Operation}
use Rattle.vx_dev.specs.declared.device.Operation.TheVariants.{Barrier}
use Rattle.vx_dev.specs.Tape.{Tape, State as Device, did, Writes, MayHold, now, Settles, IsImage, IsInStep}
use Rattle.vx_layout.specs.LogForms.{LogState, head_sector, overlay_all}
use Rattle.vx_layout.specs.Places.{Volume}
use Rattle.vx_layout.specs.Supers.{IsSuper, super_bytes, volume_of}
use Rattle.vx_layout.specs.declared.superblock.Super.{Super}
use Rattle.vx_log.specs.Crashes.{Stands}
use Rattle.vx_dev.specs.Moments.{Shows}
use Rattle.vx_model.specs.Contents.{parsed_of}
use Rattle.vx_model.specs.Images as images
use Rattle.vx_model.specs.Images.{is_metadata, contents, content_at}
use Rattle.vx_model.specs.Legal.{World}
use Rattle.vx_model.specs.Reads.{ImageReadsAs}
use Rattle.vx_model.specs.Layout.{volume}
use Rattle.vx_model.specs.Settled.{IsLeftSettled, IsSettledTree, ReplaysSettled}
use Rattle.vx_model.specs.Tree.{Tree}
use Rattle.vx_sound.specs.Said.{block_bytes}
use Rattle.vx_model.specs.State.{State}
use Rattle.vx_sound.specs.Sound.{IsSound}
use Rattle.vx_stage.specs.Leads.{state_at}
use Rattle.vx_stage.specs.Kernels.{mounted_super, clean_super, log_size, IsMounted, IsReadingOf, IsLevel, IsBegun, HasRun}
use Rattle.vx_stage.specs.KernelLaws.{KernelLaws}
use Rattle.vx_stage.specs.declared.kernel.Kernel.{Kernel}
use Rattle.vx_stage.proofs.Showing.{same_volume, has_room, allowed}
use Rattle.vx_stage.proofs.Stages.{IsClaimed}

pub held : (x : Option (List ℕ)) (y : List ℕ) → (IsTrue (is_some x) → y ≡ unwrap_or x []) → IfSome x (λ bytes. y ≡ bytes)
held None y f = tt
held (Some bytes) y f = f refl

module _ (laws : KernelLaws) (v : Super) (s : State) (is_super : IsSuper v) (m : IsMounted v s) (serial position : ℕ) where
  abbrev vol : Volume
  vol = volume_of v

  abbrev Level : Tape → Type 0
  Level t = IsLevel v s serial position t

  -- metadata stands behind the superblock
  behind : (q : ℕ) → IsTrue (is_metadata vol (parsed_of s) q) → q ≡ 0 → ⊥
  behind q there e = omega (arith, e, laws.past_log v (parsed_of s) q there)

  -- a superblock of either kind is put
  pub level_write : (t : Tape) (op : Operation) (bytes : List ℕ) → Writes op 0 bytes → (bytes ≡ super_bytes (mounted_super v)) ⊎ (bytes ≡ super_bytes (clean_super v)) → Level t → Level (did op t)
  level_write t op bytes w which l = record {
    metadata = λ q x there may. elim (w.may t q x may) [ inl before ↦ l.metadata q x there before | inr here ↦ absurd (behind q there here.0) ];
    head = λ x may. elim (w.may t 2 x may) [ inl before ↦ l.head x before | inr here ↦ absurd (omega (arith, here.0)) ];
    superblock = λ x may. elim (w.may t 0 x may) [
      | inl before ↦ l.superblock x before
      | inr here ↦ elim which [ inl e ↦ inl (here.1 ∙ e) | inr e ↦ inr (here.1 ∙ e) ]
    ];
    serial_limit = l.serial_limit;
    limit = l.limit;
  }

  pub level_barrier : (t : Tape) → Level t → Level (did Barrier t)
  level_barrier t l = record {
    metadata = λ q x there may. l.metadata q x there (laws.tape.barrier_adds t q x may);
    head = λ x may. l.head x (laws.tape.barrier_adds t 2 x may);
    superblock = λ x may. l.superblock x (laws.tape.barrier_adds t 0 x may);
    serial_limit = l.serial_limit;
    limit = l.limit;
  }

  image_stands : (t : Tape) → Level t → (image : ℕ → List ℕ) → IsImage t image → images.Stands vol (parsed_of s) image
  image_stands t l image is q = held (content_at vol (parsed_of s) q) (image q) (λ there. l.metadata q (image q) there (is q))

  image_reads : (t : Tape) → Level t → (image : ℕ → List ℕ) → IsImage t image → (tree : Tree) → IsSettledTree s (block_bytes (volume s.layout) image) tree → ImageReadsAs vol image tree
  image_reads t l image is tree settled = subst (λ (w : Volume). ImageReadsAs w image tree) (same_volume v s m)
      (laws.reads s image tree m.consistent.laid_out (subst (λ (w : Volume). images.Stands w (parsed_of s) image) (sym (same_volume v s m)) (image_stands t l image is)) settled)

  image_sound : (t : Tape) → Level t → (image : ℕ → List ℕ) → IsImage t image → IsSound false vol image
  image_sound t l image is = subst (λ (w : Volume). IsSound false w image) (same_volume v s m)
      (laws.sound s image m.consistent (subst (λ (w : Volume). images.Stands w (parsed_of s) image) (sym (same_volume v s m)) (image_stands t l image is)))

  abbrev super_with : Bool → Super
  super_with clean = record { log_blocks = v.log_blocks; units = v.units; clean = clean }

  is_super_with : (clean : Bool) → IsSuper (super_with clean)
  is_super_with clean = record { log_low = is_super.log_low; log_high = is_super.log_high; units_low = is_super.units_low; units_high = is_super.units_high }

  replays_with : (clean : Bool) (t : Tape) → Level t → (image : ℕ → List ℕ) → IsImage t image → image 0 ≡ super_bytes (super_with clean) → ReplaysSettled s image
  replays_with clean t l image is super = let found = laws.tree s (block_bytes (volume s.layout) image) m.consistent.laid_out in record {
    tree = found.0;
    settled = found.1;
    replays = record {
      first = super_with clean;
      is_first = is_super_with clean;
      first_is = super;
      first_room = has_room v s m;
      records = [];
      superblock = super_with clean;
      is_super = is_super_with clean;
      superblock_is = super;
      same_log = refl;
      room = has_room v s m;
      log = record { serial = serial; tail = position; head = position; serial_limit = l.serial_limit; limit = l.limit; form = tt; head_is = l.head (image 2) (is 2); ends = omega arith; fits = omega arith; whole = λ i lt. absurd (omega (arith, lt)) };
      sound = image_sound t l image is;
      reads = image_reads t l image is found.0 found.1;
    };
  }

  -- whatever a crash leaves replays as the state's tree with what is settled
  pub level_replays : (t : Tape) → Level t → (image : ℕ → List ℕ) → IsImage t image → ReplaysSettled s image
  level_replays t l image is = elim (l.superblock (image 0) (is 0)) [
    | inl mounted ↦ replays_with false t l image is mounted
    | inr clean ↦ replays_with true t l image is clean
  ]

  -- behind the superblock of a clean file system and a barrier
  pub left_at : (t : Tape) → Level t → Settles t 0 (super_bytes (clean_super v)) → IsLeftSettled s (did Barrier t)
  left_at t l settles =
      let l2 : Level (did Barrier t) = level_barrier t l in
      let image : ℕ → List ℕ = now (did Barrier t) in
      let is : IsImage (did Barrier t) image = (λ q. laws.tape.now_may (did Barrier t) q) in
      let found = laws.tree s (block_bytes (volume s.layout) image) m.consistent.laid_out in
      record {
        tree = found.0;
        settled = found.1;
        left = record {
          one = λ q x may. laws.tape.barrier_leaves_one t q x may;
          clean = record {
            superblock = clean_super v;
            is_super = is_super_with true;
            superblock_is = settles (image 0) (is 0);
            clean = refl;
            room = has_room v s m;
            serial = serial;
            tail = position;
            serial_limit = l.serial_limit;
            limit = l.limit;
            head_is = l2.head (image 2) (is 2);
            sound = image_sound (did Barrier t) l2 image is;
            reads = image_reads (did Barrier t) l2 image is found.0 found.1;
          };
        };
      }

  -- behind that of a mounted one
  pub begun_at : (t : Tape) → Level t → Settles t 0 (super_bytes (mounted_super v)) → IsBegun v s serial position (did Barrier t)
  begun_at t l settles = record { level = level_barrier t l; mounted = settles }

  -- a log of which nothing is noted
  pub level_of : (r : LogState) (t : Tape) → IsReadingOf v s r → Stands (log_size v) r t → ((q : ℕ) (x : List ℕ) → overlay_all r.records q x ≡ x) → r.serial ≡ serial → r.tail ≡ position → r.head ≡ position → IsBegun v s serial position t
  level_of r t reading stands unnamed serial_is tail head =
      let super : (x : List ℕ) → MayHold t 0 x → x ≡ super_bytes (mounted_super v) = (λ x may. sym (reading.unnamed x) ∙ stands.holds.metadata 0 x reading.superblock may ∙ reading.superblock_is) in
      record {
        level = record {
          metadata = λ q x there may. sym (unnamed q x) ∙ stands.holds.metadata q x (reading.says.sectors q there) may ∙ reading.says.bytes q there;
          head = λ x may. stands.head_is x may ∙ ap (λ (n : ℕ). head_sector n r.tail r.head) serial_is ∙ ap (λ (n : ℕ). head_sector serial n r.head) tail ∙ ap (λ (n : ℕ). head_sector serial position n) head;
          superblock = λ x may. inl (super x may);
          serial_limit = subst (λ (n : ℕ). n < 2 ^ 64) serial_is reading.serial;
          limit = subst (λ (n : ℕ). n ≤ 2 ^ 62) head reading.limit;
        };
        mounted = super;
      }

module _ (laws : KernelLaws) (o : World) (k : Kernel) (a : Device) (is_super : IsSuper k.sizes) (run : HasRun o a k) (step : IsInStep a) (b : Device) where
  pub level_claimed : (i serial position : ℕ) (t : Tape) → k.committed ≤ i → i ≤ length k.history.items → IsLevel k.sizes (state_at o k.history.items i) serial position t → Shows (IsClaimed laws o k a is_super run step b) t
  level_claimed i serial position t low high l image is m late = allowed o a k run laws i m image low high late (level_replays laws k.sizes (state_at o k.history.items i) is_super (run.mounted i high) serial position t l image is)
