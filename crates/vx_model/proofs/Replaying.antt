-- An image replays as one tree at most, and a clean one replays.
use Rattle.std.proofs.Common.{◌≡◌, ℕ, ◌+◌, ◌*◌, ◌<◌, ◌^◌, List, [], length, refl, sym, ap, subst, ◌∙◌, arith}
use Rattle.std.specs.Cmp.{nat_cmp_total}
use Rattle.std.specs.FinMap as map
use Rattle.std.specs.List.{AllByRecursion}
use Rattle.std.proofs.lemmas.List.{ext_get_or}
use Rattle.vx_layout.specs.declared.superblock.Super.{Super}
use Rattle.vx_layout.specs.LogForms.{AfterImage, IsRecord, head_sector, log_at, log_sectors, overlay_all}
use Rattle.vx_layout.specs.Places.{Volume}
use Rattle.vx_layout.specs.Supers.{IsSuper, super_bytes, volume_of}
use Rattle.vx_model.specs.Reads.{ImageReadsAs}
use Rattle.vx_model.specs.Replays.{HasRecords, IsClean, ReplaysAs}
use Rattle.vx_model.specs.Tree.{Tree, tree_of_nodes}

-- the nodes that the image says, and the rest by its definition
pub reads_once : (v : Volume) (image : ℕ → List ℕ) (t u : Tree) → ImageReadsAs v image t → ImageReadsAs v image u → t ≡ u
reads_once v image t u a b =
    let nodes : t.nodes ≡ u.nodes = map.same_map nat_cmp_total map.nat_cmp-IsAntisymmetric t.nodes u.nodes (λ n. a.nodes n ∙ sym (b.nodes n)) in
    a.rest ∙ ap tree_of_nodes nodes ∙ sym b.rest

-- what is spelled alike is the same
pub record Laws : Type 0 where
  pub supers : (v w : Super) → IsSuper v → IsSuper w → super_bytes v ≡ super_bytes w → v ≡ w
  pub heads : (serial tail head serial2 tail2 head2 : ℕ) → tail < 2 ^ 64 → head < 2 ^ 64 → tail2 < 2 ^ 64 → head2 < 2 ^ 64
      → head_sector serial tail head ≡ head_sector serial2 tail2 head2 → (tail ≡ tail2) × (head ≡ head2)
  pub records : (n size more position : ℕ) (rs qs : List (List AfterImage)) → AllByRecursion (IsRecord n size) rs → AllByRecursion (IsRecord n more) qs → log_sectors position rs ≡ log_sectors position qs → rs ≡ qs
  pub reads : (v : Volume) (image : ℕ → List ℕ) (t u : Tree) → ImageReadsAs v image t → ImageReadsAs v image u → t ≡ u

module _ (laws : Laws) (image : ℕ → List ℕ) where
  logs_same : (n size more : ℕ) (rs qs : List (List AfterImage)) → HasRecords n size image rs → HasRecords n more image qs → rs ≡ qs
  logs_same n size more rs qs a b =
      let ends = laws.heads a.serial a.tail a.head b.serial b.tail b.head (omega (arith, a.limit, a.ends)) (omega (arith, a.limit)) (omega (arith, b.limit, b.ends)) (omega (arith, b.limit)) (sym a.head_is ∙ b.head_is) in
      let count : length (log_sectors a.tail rs) ≡ length (log_sectors b.tail qs) = omega (arith, a.ends, b.ends, ends.0, ends.1) in
      let same : log_sectors a.tail rs ≡ log_sectors b.tail qs = ext_get_or [] (log_sectors a.tail rs) (log_sectors b.tail qs) count
      (λ i lt. sym (a.whole i lt) ∙ ap (λ (p : ℕ). image (log_at n (p + i))) ends.0 ∙ b.whole i (omega (arith, lt, count))) in
      laws.records n size more a.tail rs qs a.form b.form (same ∙ sym (ap (λ (p : ℕ). log_sectors p qs) ends.0))

  pub replays_once : (m n : ℕ) (t u : Tree) → ReplaysAs m image t → ReplaysAs n image u → t ≡ u
  replays_once m n t u a b =
      let first : b.first ≡ a.first = laws.supers b.first a.first b.is_first a.is_first (sym b.first_is ∙ a.first_is) in
      let log : HasRecords (2 * a.first.log_blocks) n image b.records = subst (λ (s : Super). HasRecords (2 * s.log_blocks) n image b.records) first b.log in
      let records : b.records ≡ a.records = logs_same (2 * a.first.log_blocks) n m b.records a.records log a.log in
      let super : b.superblock ≡ a.superblock = laws.supers b.superblock a.superblock b.is_super a.is_super
      (sym b.superblock_is ∙ ap (λ (rs : List (List AfterImage)). overlay_all rs 0 (image 0)) records ∙ a.superblock_is) in
      let over : (List (List AfterImage)) → ℕ → List ℕ = λ rs s. overlay_all rs s (image s) in
      let other : ImageReadsAs (volume_of a.superblock) (over a.records) u =
      subst (λ (s : Super). ImageReadsAs (volume_of s) (over a.records) u) super (subst (λ (rs : List (List AfterImage)). ImageReadsAs (volume_of b.superblock) (over rs) u) records b.reads) in
      laws.reads (volume_of a.superblock) (over a.records) t u a.reads other

-- a log that holds nothing has no records
pub clean_replays : (device_sectors : ℕ) (image : ℕ → List ℕ) (t : Tree) → IsClean device_sectors image t → ReplaysAs device_sectors image t
clean_replays device_sectors image t c = record {
  first = c.superblock;
  is_first = c.is_super;
  first_is = c.superblock_is;
  first_room = c.room;
  records = [];
  superblock = c.superblock;
  is_super = c.is_super;
  superblock_is = c.superblock_is;
  same_log = refl;
  room = c.room;
  log = record {
    serial = c.serial;
    tail = c.tail;
    head = c.tail;
    serial_limit = c.serial_limit;
    limit = c.limit;
    form = tt;
    head_is = c.head_is;
    ends = omega arith;
    fits = omega arith;
    whole = λ i lt. absurd (omega arith);
  };
  sound = c.sound;
  reads = c.reads;
}
