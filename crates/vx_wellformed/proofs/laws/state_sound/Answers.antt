use Rattle.std.proofs.Common.{◌≡◌, true, false}
use Rattle.vx_layout.specs.LogForms.{overlay_all}
use Rattle.vx_model.specs.Layout.{volume}
use Rattle.vx_model.specs.Contents.{parsed_of}
use Rattle.vx_model.specs.State.{State}
use Rattle.vx_wellformed.specs.WellFormed.{AreNamed}
use Rattle.vx_wellformed.proofs.Sounding.{Laws, sound}
use Rattle.vx_wellformed.proofs.laws.state_sound.Goals as goal

pub returns : goal.returns
returns c =
    let laws : Laws = record {
      bitmap = c.sector_contents.ensures.bitmap;
      inodes = c.sector_contents.ensures.inodes;
      parts = c.sector_contents.ensures.parts;
      block = c.claims.ensures.block;
      map_block = c.claims.ensures.map_block;
      on_device = c.claims.ensures.on_device;
      within = c.claims.ensures.within;
      decoding = c.decoding_laws.ensures;
      says = c.state_says.ensures;
    } in
    let any : (s : State) → false ≡ true → AreNamed s = λ s e. absurd cc in
    record {
      sound = λ s image w stands. sound laws s w false (any s) image stands;
      strict = λ s image w named stands. sound laws s w true (λ e. named) image stands;
      log_sound = λ n s r image w say reads.
          sound laws s w false (any s) (λ x. overlay_all r.records x (image x)) (c.log_says.ensures.stands n (volume s.layout) (parsed_of s) r image say reads);
      consistent = λ s w. (record { laid_out = w.laid_out; names = w.names; links = w.links; no_loops = w.no_loops }, λ n f at. (w.plain.files n f at).0.some_links);
    }
