-- An image that was left clean, and one that needs a replay.
use Rattle.std.proofs.Common.{◌≡◌, ℕ, ◌+◌, ◌*◌, ◌<◌, ◌^◌, Bool, true, false, List, [], ◌∷◌, length, refl, sym, ap, subst, ◌∙◌, arith}
use Rattle.std.specs.Prelude.{◌==◌, ◌&&◌}
use Rattle.std.proofs.lemmas.Bool.{eqb-true, eq-eqb}
use Rattle.vx_layout.specs.declared.superblock.Super.{Super}
use Rattle.vx_layout.specs.LogForms.{AfterImage, head_sector, log_sectors, overlay_all}
use Rattle.vx_layout.specs.Supers.{IsSuper, super_bytes, volume_of}
use Rattle.vx_model.specs.Reads.{ImageReadsAs}
use Rattle.vx_sound.specs.Sound.{IsSound}
use Rattle.vx_model.specs.Replays.{ReplaysAs, IsClean}
use Rattle.vx_model.specs.Tree.{Tree}
use Rattle.vx_replay.specs.LogReads.{StandThere, AreRecords}
use Rattle.vx_replay.specs.Replayed.{IsCounted, IsSettled}
use Rattle.vx_replay.specs.Stopped.{IsReadFrom}
use Rattle.vx_replay.specs.declared.load.Stopped.{Stopped}

no_records : (position : ℕ) (rs : List (List AfterImage)) → length (log_sectors position rs) ≡ 0 → rs ≡ []
no_records position [] none = refl
no_records position (r ∷ rs) none = absurd (omega (arith, none))

both_first : (a b : Bool) → (a && b) ≡ true → a ≡ true
both_first true b e = refl
both_first false b e = absurd cc

both_second : (a b : Bool) → (a && b) ≡ true → b ≡ true
both_second true b e = e
both_second false b e = absurd cc

module _ (size : ℕ) (image : ℕ → List ℕ) (s : Stopped) (is_super : IsSuper s.superblock) (read : IsReadFrom size image s) where
  pub left_clean : (tree : Tree) → ((v w : Super) → IsSuper v → IsSuper w → super_bytes v ≡ super_bytes w → v ≡ w)
      → ((serial tail head serial2 tail2 head2 : ℕ) → tail < 2 ^ 64 → head < 2 ^ 64 → tail2 < 2 ^ 64 → head2 < 2 ^ 64 → head_sector serial tail head ≡ head_sector serial2 tail2 head2 → (tail ≡ tail2) × (head ≡ head2))
      → ReplaysAs size image tree → (s.superblock.clean && (s.log.tail == s.log.head)) ≡ true → IsClean size image tree
  left_clean tree supers heads h is =
      let level : s.log.tail ≡ s.log.head = eqb-true s.log.tail s.log.head (both_second s.superblock.clean (s.log.tail == s.log.head) is) in
      let e = read.is_ends in
      let a = h.log in
      let even : read.ends.tail ≡ read.ends.head = sym read.tail ∙ level ∙ read.head in
      let low : a.tail < 2 ^ 64 = omega (arith, a.limit, a.ends) in
      let high : a.head < 2 ^ 64 = omega (arith, a.limit) in
      let low2 : read.ends.tail < 2 ^ 64 = omega (arith, e.limit, e.order) in
      let high2 : read.ends.head < 2 ^ 64 = omega (arith, e.limit) in
      let ends = heads a.serial a.tail a.head read.ends.serial read.ends.tail read.ends.head low high low2 high2 (sym a.head_is ∙ read.head_is) in
      let none : h.records ≡ [] = no_records a.tail h.records (omega (arith, a.ends, ends.0, ends.1, even)) in
      let mine : read.records ≡ [] = no_records read.ends.tail read.records (omega (arith, even, read.are.ends)) in
      let here : image 0 ≡ super_bytes h.superblock = ap (λ (rs : List (List AfterImage)). overlay_all rs 0 (image 0)) (sym none) ∙ h.superblock_is in
      let there : image 0 ≡ super_bytes s.superblock = ap (λ (rs : List (List AfterImage)). overlay_all rs 0 (image 0)) (sym mine) ∙ read.superblock_is in
      let same : h.superblock ≡ s.superblock = supers h.superblock s.superblock h.is_super is_super (sym here ∙ there) in
      record {
        superblock = h.superblock;
        is_super = h.is_super;
        superblock_is = here;
        clean = ap (λ (v : Super). v.clean) same ∙ both_first s.superblock.clean (s.log.tail == s.log.head) is;
        room = h.room;
        serial = read.ends.serial;
        tail = read.ends.tail;
        serial_limit = read.is_ends.serial;
        limit = omega (arith, e.limit, even);
        head_is = read.head_is ∙ ap (λ (p : ℕ). head_sector read.ends.serial read.ends.tail p) (sym even);
        sound = subst (λ (rs : List (List AfterImage)). IsSound false (volume_of h.superblock) (λ q. overlay_all rs q (image q))) none h.sound;
        reads = subst (λ (rs : List (List AfterImage)). ImageReadsAs (volume_of h.superblock) (λ q. overlay_all rs q (image q)) tree) none h.reads;
      }

  pub settled : ((v w : Super) → IsSuper v → IsSuper w → super_bytes v ≡ super_bytes w → v ≡ w) → (s.superblock.clean && (s.log.tail == s.log.head)) ≡ true → IsSettled size image
  settled supers is =
      let level : s.log.tail ≡ s.log.head = eqb-true s.log.tail s.log.head (both_second s.superblock.clean (s.log.tail == s.log.head) is) in
      let even : read.ends.tail ≡ read.ends.head = sym read.tail ∙ level ∙ read.head in
      let none : read.records ≡ [] = no_records read.ends.tail read.records (omega (arith, even, read.are.ends)) in
      let there : image 0 ≡ super_bytes s.superblock = ap (λ (rs : List (List AfterImage)). overlay_all rs 0 (image 0)) (sym none) ∙ read.superblock_is in
      let same : read.first ≡ s.superblock = supers read.first s.superblock read.is_first is_super (sym read.first_is ∙ there) in
      let n : ℕ = 2 * read.first.log_blocks in
      record {
        first = read.first;
        first_is = read.checked;
        clean = ap (λ (v : Super). v.clean) same ∙ both_first s.superblock.clean (s.log.tail == s.log.head) is;
        log = record {
          ends = read.ends;
          is_ends = read.is_ends;
          head_is = read.head_is;
          are = subst (AreRecords n size read.ends.tail read.ends.head) none read.are;
          stand = subst (λ (rs : List (List AfterImage)). StandThere n image read.ends.tail (log_sectors read.ends.tail rs)) none read.stand;
        };
      }

  needs : (rs : List (List AfterImage)) → s.log.head ≡ s.log.tail + length (log_sectors s.log.tail rs) → (s.superblock.clean && (s.log.tail == s.log.head)) ≡ false → s.superblock.clean ≡ true → 0 < length rs
  needs [] ends is clean =
      let level : s.log.head ≡ s.log.tail = omega (arith, ends) in
      let yes : (s.log.tail == s.log.head) ≡ true = eq-eqb s.log.tail s.log.head (sym level) in
      absurd (let wrong : true ≡ false = sym (ap (λ (b : Bool). b && (s.log.tail == s.log.head)) clean ∙ yes) ∙ is in cc)
  needs (r ∷ rs) ends is clean = omega arith

  pub counted : (records sectors : ℕ) → records ≡ s.descriptors → sectors ≡ s.images → (s.superblock.clean && (s.log.tail == s.log.head)) ≡ false → IsCounted size image records sectors
  counted records sectors rs_are ss_are is = record {
    first = read.first;
    first_is = read.checked;
    held = read.records;
    log = record { ends = read.ends; is_ends = read.is_ends; head_is = read.head_is; are = read.are; stand = read.stand };
    records_are = rs_are ∙ read.descriptors;
    sectors_are = ss_are ∙ read.images;
    last = s.superblock;
    is_last = is_super;
    last_is = read.superblock_is;
    needed = needs read.records
        (read.head ∙ read.are.ends ∙ ap (λ (p : ℕ). p + length (log_sectors p read.records)) (sym read.tail)) is;
  }
