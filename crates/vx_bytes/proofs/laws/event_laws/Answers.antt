use Rattle.vx_base.specs.declared.event.Event.TheVariants as event
use Rattle.vx_base.specs.declared.reply.Reply.TheVariants as say
use Rattle.vx_bytes.proofs.AllFiles.{files_untouched, files_longer, files_shorter, files_emptied, files_settled, files_answered, files_unmounted}
use Rattle.vx_bytes.proofs.Releasing.{present_is, present_next, release_untouched, answer_untouched, unmounting_untouched, release_unpromising, refusal_unpromising}
use Rattle.vx_bytes.proofs.laws.event_laws.Goals as goal

pub returns : goal.returns
returns c = record {
  untouched = λ mode o h e p since t placed un each old. files_untouched mode o h e p since t placed un each old;
  longer = λ mode o h e p since t marks ino next others l gives uses old. files_longer mode o h e p since t next.placed next.unpromising marks ino others l next.others gives uses old;
  shorter = λ mode o h e p since t ino size next s old. files_shorter mode o h e p since t next.placed next.unpromising ino size s next.others old;
  emptied = λ mode o h e p since t marks ino next others s old. files_emptied mode o h e p since t next.placed next.unpromising marks ino others s next.others old;
  settled = λ mode o h e p since t ino next s each old. files_settled mode o h e p since t next.placed next.unpromising ino s each next.others old;
  released = λ mode o h p since t at upto placed old. files_untouched mode o h (event.Release at upto) p since t placed (release_unpromising at upto) (release_untouched o h at upto) old;
  answered = λ mode o h p since t at place answer placed lt on old. files_answered mode o h p since t placed at place answer lt on (answer_untouched o h at place answer) old;
  refused = λ mode o h p since t at place why placed old. files_untouched mode o h (event.Ret at place (say.Refused why)) p since t placed (refusal_unpromising at place why) (answer_untouched o h at place (say.Refused why)) old;
  unmounted = λ mode o h p since t at stable old. files_unmounted mode o h p since t (event.Unmounted at) (unmounting_untouched o h at) stable old;
  state = present_is;
  next = present_next;
}
