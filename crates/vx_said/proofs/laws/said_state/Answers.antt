use Rattle.std.proofs.Common.{true, refl}
use Rattle.vx_layout.specs.Supers.{volume_of}
use Rattle.vx_sound.specs.Reading.{HasWholeBlocks}
use Rattle.vx_said.proofs.States.{state, has_whole_blocks}
use Rattle.vx_said.proofs.Files.{said_files}
use Rattle.vx_said.proofs.PlainStates.{is_plain, whole_pages}
use Rattle.vx_said.proofs.laws.said_state.Goals as goal

pub returns : goal.returns
returns c v device_sectors image sizes room sound plain =
    let whole : HasWholeBlocks (volume_of v) = has_whole_blocks v device_sectors image in
    let files = said_files (record { reading = c.reading_laws.ensures; claim = c.claim_laws.ensures; once = c.sound_laws.ensures.claimed_once true }) v device_sectors image
    (record { sizes = sizes; room = room; sound = sound; pages = whole_pages v device_sectors image whole sound plain }) in
    record {
      state = state v device_sectors image;
      well_formed = record {
        laid_out = files.consistent.laid_out;
        plain = is_plain v device_sectors image whole sound plain;
        names = files.consistent.names;
        links = files.consistent.links;
        no_loops = files.consistent.no_loops;
      };
      log_blocks = refl;
      units = refl;
      volume_is = refl;
      device = refl;
      limit = refl;
      stands = files.stands;
      reads = files.reads;
      nothing_waits = λ b. refl;
    }
