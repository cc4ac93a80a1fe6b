use Rattle.std.proofs.Common.{◌≡◌, true, List, Option, None, Err, sym, ap, ◌∙◌, subst}
use Rattle.vx_base.specs.declared.inode.InodeValue.{InodeValue}
use Rattle.vx_dev.specs.Tape.{now}
use Rattle.vx_layout.specs.Places.{Volume}
use Rattle.vx_layout.specs.Supers.{volume_of}
use Rattle.vx_check.specs.Contents.{InodeContents}
use Rattle.vx_check.specs.Loading.{AreFound, AreSaid, OnDevice}
use Rattle.vx_check.specs.Parts.{IsStopped}
use Rattle.vx_sound.specs.Said.{Image}
use Rattle.vx_replay.specs.ImageChecks.{HasCleanFront}
use Rattle.vx_load.specs.Listed.{AreListed, AreOf}
use Rattle.vx_load.specs.Loads.{HasBytesAt, HoldsState, IsRefused}
use Rattle.vx_load.specs.Plain.{ArePlain, IsHeldAt}
use Rattle.vx_load.proofs.Listing.{holds, listed, state, state_for}
use Rattle.vx_load.proofs.Refusing.{bytes_at, rose_later, still_shows, unsound}
use Rattle.vx_load.proofs.loading.load.Goals as goal

pub returns-in-Err-read_metadata-clause-refused : goal.returns-in-Err-read_metadata-clause-refused
returns-in-Err-read_metadata-clause-refused g c =
    let d0 = g.D.BlockDev.state c.args.dev.now in
    let d1 = g.D.BlockDev.state c.check_clean_front.new.dev in
    let d2 = g.D.BlockDev.state c.read_metadata.new.dev in
    let front = c.in-Ok.front in
    let why = c.in-Err-read_metadata.why in
    let read = c.check_clean_front.ensures.unwritten in
    let finds : OnDevice d1 (λ image. IsStopped true (volume_of front.superblock) image why) = subst (λ (w : Volume). OnDevice d1 (λ image. IsStopped true w image why)) c.volume-volume.ensures c.in-Err-read_metadata.ensures.finds in
    let first = read.reads in
    subst (IsRefused d0 d2) (sym c.from.ensures)
    (unsound c.clean_front_laws.ensures.bad_meta d0 d2 front c.in-Ok.ensures.is c.in-Ok.ensures.shows why
    (λ t shown. (let later = still_shows d0 d1 t read shown in finds t later.told later.certain))
    (λ is. rose_later d0.read_faults d1.read_faults d2.read_faults first (c.read_metadata.ensures.cause (c.in-Err-read_metadata.is ∙ ap Err is))))

pub returns-in-Some-clause-refused : goal.returns-in-Some-clause-refused
returns-in-Some-clause-refused g c = λ t shown.
    let d0 = g.D.BlockDev.state c.args.dev.now in
    let d1 = g.D.BlockDev.state c.check_clean_front.new.dev in
    let front = c.in-Ok.front in
    let later = still_shows d0 d1 t c.check_clean_front.ensures.unwritten shown in
    let f = c.in-Ok-read_metadata.found in
    let found = subst (λ (w : Volume). AreFound w d1 f.inodes.items f.children.items f.contents.items) c.volume-volume.ensures c.in-Ok-read_metadata.ensures.found in
    let real : found.image ≡ now t = found.shown t later.told later.certain in
    let are : AreSaid (volume_of front.superblock) (now t) f.inodes.items f.children.items f.contents.items = subst (λ (image : Image). AreSaid (volume_of front.superblock) image f.inodes.items f.children.items f.contents.items) real found.are in
    subst (HasBytesAt d0.size (now t)) (sym c.get.ensures)
    (bytes_at c.clean_front_laws.ensures.passes d0.size (now t) front c.in-Ok.ensures.is (c.in-Ok.ensures.shows t shown) f.inodes.items are.inodes_are are.sound c.in-Some.ino
    (subst (λ (os : List (Option InodeValue)). IsHeldAt os c.in-Some.ino) c.deref.ensures.value c.in-Some.ensures.some))

pub metadata_of-requires-clause-listed : goal.metadata_of-requires-clause-listed
metadata_of-requires-clause-listed g c =
    let d0 = g.D.BlockDev.state c.args.dev.now in
    let d1 = g.D.BlockDev.state c.check_clean_front.new.dev in
    let front = c.in-Ok.front in
    let f = c.in-Ok-read_metadata.found in
    let found = subst (λ (w : Volume). AreFound w d1 f.inodes.items f.children.items f.contents.items) c.volume-volume.ensures c.in-Ok-read_metadata.ensures.found in
    let plain : ArePlain f.inodes.items = subst ArePlain c.deref.ensures.value (c.first_with_bytes.ensures.none c.in-None.is) in
    let s = state c.said_state.ensures c.state_says.ensures front d0.size found.image f.inodes.items f.children.items f.contents.items c.in-Ok.ensures.is found.are plain in
    let are : AreOf front.superblock s f.inodes.items f.contents.items =
    listed c.said_state.ensures c.state_says.ensures front d0.size found.image f.inodes.items f.children.items f.contents.items c.in-Ok.ensures.is found.are plain found.inodes_count found.contents_count in
    let all : AreListed front.superblock f.inodes.items f.contents.items = record { state = s; are = are } in
    subst (λ (os : List (Option InodeValue)). AreListed front.superblock os c.deref-3.result.now) (sym c.deref-2.ensures.value)
    (subst (λ (ks : List InodeContents). AreListed front.superblock f.inodes.items ks) (sym c.deref-3.ensures.value) all)

pub returns-in-Ok-metadata_of-clause-loaded : goal.returns-in-Ok-metadata_of-clause-loaded
returns-in-Ok-metadata_of-clause-loaded g c =
    let d0 = g.D.BlockDev.state c.args.dev.now in
    let d1 = g.D.BlockDev.state c.check_clean_front.new.dev in
    let front = c.in-Ok.front in
    let f = c.in-Ok-read_metadata.found in
    let found = subst (λ (w : Volume). AreFound w d1 f.inodes.items f.children.items f.contents.items) c.volume-volume.ensures c.in-Ok-read_metadata.ensures.found in
    let plain : ArePlain f.inodes.items = subst ArePlain c.deref.ensures.value (c.first_with_bytes.ensures.none c.in-None.is) in
    let s = state c.said_state.ensures c.state_says.ensures front d0.size found.image f.inodes.items f.children.items f.contents.items c.in-Ok.ensures.is found.are plain in
    let are : AreOf front.superblock s f.inodes.items f.contents.items =
    listed c.said_state.ensures c.state_says.ensures front d0.size found.image f.inodes.items f.children.items f.contents.items c.in-Ok.ensures.is found.are plain found.inodes_count found.contents_count in
    let now_are : AreOf front.superblock s c.deref-2.result.now c.deref-3.result.now =
    subst (λ (os : List (Option InodeValue)). AreOf front.superblock s os c.deref-3.result.now) (sym c.deref-2.ensures.value)
    (subst (λ (ks : List InodeContents). AreOf front.superblock s f.inodes.items ks) (sym c.deref-3.ensures.value) are) in
    record {
      front = c.in-Ok.ensures.is;
      state = s;
      is = state_for c.said_state.ensures c.state_says.ensures front d0.size found.image f.inodes.items f.children.items f.contents.items c.in-Ok.ensures.is found.are plain;
      meta = c.in-Ok-metadata_of.ensures s now_are;
      shown = λ t shown. (
          let later = still_shows d0 d1 t c.check_clean_front.ensures.unwritten shown in
          let real : found.image ≡ now t = found.shown t later.told later.certain in
          let clean = subst (λ (image : Image). HasCleanFront d0.size image front) (sym real) (c.in-Ok.ensures.shows t shown) in
          subst (λ (image : Image). HoldsState front s d0.size image) real
          (holds c.said_state.ensures c.state_says.ensures front d0.size found.image f.inodes.items f.children.items f.contents.items c.in-Ok.ensures.is found.are plain c.clean_front_laws.ensures.passes clean));
    }
