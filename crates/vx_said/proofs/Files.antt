-- All that is said of the state that a sound image says.
use Rattle.std.proofs.Common.{ℕ, refl}
use Rattle.vx_layout.specs.Supers.{volume_of}
use Rattle.vx_layout.specs.declared.superblock.Super.{Super}
use Rattle.vx_sound.specs.Said.{Image}
use Rattle.vx_sound.specs.Reading.{HasWholeBlocks}
use Rattle.vx_said.specs.SaidFiles.{SaidFiles}
use Rattle.vx_said.proofs.States.{state, has_whole_blocks, on_device, named, settled}
use Rattle.vx_said.proofs.LayingOut.{IsSoundImage, Laws, laid_out, stands, reads}
use Rattle.vx_said.proofs.Names.{has_names, has_links}
use Rattle.vx_said.proofs.Reaching.{no_loops}

abbrev pub said_files : Laws → (v : Super) (device_sectors : ℕ) (image : Image) → IsSoundImage v device_sectors image → SaidFiles v device_sectors image
said_files laws v device_sectors image is =
    let whole : HasWholeBlocks (volume_of v) = has_whole_blocks v device_sectors image in
    record {
      state = state v device_sectors image;
      consistent = record {
        laid_out = laid_out laws v device_sectors image is;
        names = has_names v device_sectors image is;
        links = has_links v device_sectors image is;
        no_loops = no_loops v device_sectors image is;
      };
      named = named v device_sectors image whole is.sound;
      log_blocks = refl;
      units = refl;
      volume_is = refl;
      device = refl;
      limit = refl;
      stands = stands laws v device_sectors image is;
      reads = reads laws v device_sectors image is;
      on_device = on_device v device_sectors image whole is.sound;
      settled = settled v device_sectors image whole is.sound;
      nothing_waits = λ b. refl;
    }
