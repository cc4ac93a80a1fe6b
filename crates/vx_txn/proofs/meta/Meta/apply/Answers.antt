use Rattle.std.proofs.lemmas.Result.{IfOk-weaker, on_err_weaker}
use Rattle.vx_base.specs.declared.reply.Reply.{Reply}
use Rattle.vx_txn.specs.Metas.{IsUnchanged}
use Rattle.vx_txn.specs.Replies.{IsShort, IsSound}
use Rattle.vx_txn.proofs.CallLaws.{short_sound, replies_fit}
use Rattle.vx_model.specs.Step.{step}
use Rattle.vx_txn.proofs.Changes.{unchanged_state}
use Rattle.vx_txn.proofs.MetaLaws.{still_sound}
use Rattle.vx_txn.proofs.meta.Meta.apply.Goals as goal

pub returns-in_default : goal.returns-in_default
returns-in_default c = record {
  done = λ s session laid plain is. c.changed.ensures.done s session (record { laid_out = laid; plain = plain; is = is });
  copy = c.changed.ensures.copy;
  sound = IfOk-weaker c.changed.result (λ (r : Reply × Reply). IsShort r.0) (λ (r : Reply × Reply). IsSound r.0) (λ r h. short_sound r.0 h) c.changed.ensures.short;
  stays = still_sound c.args.self.now c.changed.new.meta c.requires.sound.state (step c.requires.sound.state c.args.place 0 c.args.call.now) c.changed.new.touched c.changed.result c.requires.sound.stands
      (c.changed.ensures.done c.requires.sound.state 0 c.requires.sound.stands) c.changed.ensures.unchanged;
  fits = c.changed.ensures.fits;
  few = c.changed.ensures.few;
  units = c.changed.ensures.units;
  err = λ s is. on_err_weaker c.changed.result (λ (u : IsUnchanged c.args.self.now c.changed.new.meta). unchanged_state c.args.self.now c.changed.new.meta s u is) c.changed.ensures.unchanged;
  untouched = c.changed.ensures.untouched;
  mount = c.changed.ensures.mount;
}

pub returns-in-List-clause-fits : goal.returns-in-List-clause-fits
returns-in-List-clause-fits c = replies_fit c.args.touched.now c.listed.result c.requires.empty
