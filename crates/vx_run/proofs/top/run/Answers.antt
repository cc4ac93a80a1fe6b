use Rattle.std.proofs.Common.{map, subst}
use Rattle.std.specs.Prelude.{is_ok}
use Rattle.std.specs.String.{string_bytes}
use Rattle.vx_run.specs.Ends.{Setting, refused, HasEnded}
use Rattle.vx_run.specs.Outcomes.{end_of}
use Rattle.vx_run.proofs.Finishing.{takes_of}
use Rattle.vx_run.proofs.top.run.Goals as goal

pub returns-in-Refused : goal.returns-in-Refused
returns-in-Refused g c =
    let s : Setting = record { words = map string_bytes c.args.words.now; script = g.S.Source.left c.args.script.now; device = g.D.BlockDev.state c.args.dev; script_faults = g.S.Source.fault_count c.args.script.now } in
    record {
      ran = record {
        end = refused c.in-Refused.why;
        written = is_ok c.render_refusal.result;
        cause = subst (λ o. HasEnded s (g.D.BlockDev.state c.worked-outcome.result.1) (g.S.Source.fault_count c.worked-outcome.new.script) (end_of o)) c.in-Refused.is c.worked-outcome.ensures.ended;
        output = takes_of _ _ c.render_refusal.result c.render_refusal.ensures.ok c.render_refusal.ensures.err c.render_refusal.ensures.cause;
        status_is = c.status.ensures;
        history_is = c.new.ensures;
      };
    }
