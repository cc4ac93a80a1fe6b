use Rattle.std.proofs.Common.{◌≡◌, ◌+◌, ℕ, false, length, sym, subst, ◌∙◌}
use Rattle.vx_dev.specs.Tape.{now}
use Rattle.vx_dev.specs.Moments.{Told, Always}
use Rattle.vx_model.specs.Replays.{ReplaysAs, IsLeft}
use Rattle.vx_layout.specs.Supers.{volume_of}
use Rattle.vx_replay.specs.ImageChecks.{HasBadMeta, PassesCheck, laid}
use Rattle.vx_replay.specs.Stopped.{IsReadFrom}
use Rattle.vx_replay.specs.declared.refusal.ReplayRefusal.TheVariants.{BadMeta}
use Rattle.vx_replay.proofs.ImageChecking.{passes_read, fails_read, bad_there}
use Rattle.vx_replay.proofs.LogReading.{read_more, still_shows}
use Rattle.vx_replay.proofs.Steps.{replay_of}
use Rattle.vx_replay.proofs.Recovering.{left_clean, settled, counted}
use Rattle.vx_replay.proofs.top.replay.Goals as goal

pub returns-then-is_clean-clause-clean : goal.returns-then-is_clean-clause-clean
returns-then-is_clean-clause-clean g c = λ t tree shows replays is.
    left_clean (g.D.BlockDev.state c.args.dev.now).size (now t) c.in-Ok.stopped c.in-Ok.ensures.sound.superblock (c.in-Ok.ensures.read t shows) tree
    c.super_spelling.ensures.unique c.log_spelling.ensures.head replays (sym c.is_clean.ensures ∙ c.if-is_clean.true)

pub returns-then-is_clean-clause-settled : goal.returns-then-is_clean-clause-settled
returns-then-is_clean-clause-settled g c = λ t shows is.
    settled (g.D.BlockDev.state c.args.dev.now).size (now t) c.in-Ok.stopped c.in-Ok.ensures.sound.superblock (c.in-Ok.ensures.read t shows)
    c.super_spelling.ensures.unique (sym c.is_clean.ensures ∙ c.if-is_clean.true)

pub returns-in-Ok-carry-clause-left : goal.returns-in-Ok-carry-clause-left
returns-in-Ok-carry-clause-left g c = λ t tree records sectors shows replays is.
    let d0 = g.D.BlockDev.state c.args.dev.now in
    let d1 = g.D.BlockDev.state c.check_stopped.new.dev in
    let read = read_more d0 (g.D.BlockDev.state c.load.new.dev) d1 c.in-Ok.ensures.unwritten c.check_stopped.ensures.unwritten in
    subst (λ (size : ℕ). Told (g.D.BlockDev.state c.carry.new.dev) (IsLeft size tree)) read.size
    (c.in-Ok-carry.ensures.left t tree (replay_of d0 d1 t tree c.in-Ok.stopped read shows replays (c.in-Ok.ensures.read t shows)))

pub returns-in-Ok-carry-clause-counted : goal.returns-in-Ok-carry-clause-counted
returns-in-Ok-carry-clause-counted g c = λ t records sectors shows is.
    let same : records ≡ c.in-Ok.stopped.descriptors = cc in
    let alike : sectors ≡ c.in-Ok.stopped.images = cc in
    counted (g.D.BlockDev.state c.args.dev.now).size (now t) c.in-Ok.stopped c.in-Ok.ensures.sound.superblock (c.in-Ok.ensures.read t shows) records sectors same alike
    (sym c.is_clean.ensures ∙ c.if-is_clean.false)

pub returns-in-Ok-carry-clause-kept : goal.returns-in-Ok-carry-clause-kept
returns-in-Ok-carry-clause-kept g c = λ t tree shows replays.
    let d0 = g.D.BlockDev.state c.args.dev.now in
    let d1 = g.D.BlockDev.state c.check_stopped.new.dev in
    let read = read_more d0 (g.D.BlockDev.state c.load.new.dev) d1 c.in-Ok.ensures.unwritten c.check_stopped.ensures.unwritten in
    subst (λ (size : ℕ). Told (g.D.BlockDev.state c.carry.new.dev) (Always (length t.ops + 1) (λ _ image. ReplaysAs size image tree))) read.size
    (c.carry.ensures.kept t tree (replay_of d0 d1 t tree c.in-Ok.stopped read shows replays (c.in-Ok.ensures.read t shows)))

pub returns-clause-kept : goal.returns-clause-kept
returns-clause-kept g c = λ t tree shows replays.
    let d0 = g.D.BlockDev.state c.args.dev.now in
    let d1 = g.D.BlockDev.state c.check_stopped.new.dev in
    let read = read_more d0 (g.D.BlockDev.state c.load.new.dev) d1 c.in-Ok.ensures.unwritten c.check_stopped.ensures.unwritten in
    subst (λ (size : ℕ). Told (g.D.BlockDev.state c.carry.new.dev) (Always (length t.ops + 1) (λ _ image. ReplaysAs size image tree))) read.size
    (c.carry.ensures.kept t tree (replay_of d0 d1 t tree c.in-Ok.stopped read shows replays (c.in-Ok.ensures.read t shows)))

pub returns-in-Err-check_stopped-clause-bad_meta : goal.returns-in-Err-check_stopped-clause-bad_meta
returns-in-Err-check_stopped-clause-bad_meta g c = λ t sector shows is.
    let d0 = g.D.BlockDev.state c.args.dev.now in
    let d1 = g.D.BlockDev.state c.load.new.dev in
    let s = c.in-Ok.stopped in
    let size : d0.size ≡ d1.size = sym c.in-Ok.ensures.unwritten.size in
    let read : IsReadFrom d1.size (now t) s = subst (λ (n : ℕ). IsReadFrom n (now t) s) size (c.in-Ok.ensures.read t shows) in
    let why : c.meta_refusal.result ≡ BadMeta sector = cc in
    subst (λ (n : ℕ). HasBadMeta false n (now t) sector) (sym size)
    (fails_read c.super_spelling.ensures.again d1.size (now t) s read c.in-Ok.ensures.sound.superblock sector
    (bad_there false (volume_of s.superblock) (laid read.records (now t)) c.in-Err-check_stopped.stop sector (sym c.meta_refusal.ensures ∙ why)
    (c.in-Err-check_stopped.ensures.finds t (still_shows d0 d1 t c.in-Ok.ensures.unwritten shows) read)))

pub returns-then-is_clean-clause-sound : goal.returns-then-is_clean-clause-sound
returns-then-is_clean-clause-sound g c = λ t shows.
    let d0 = g.D.BlockDev.state c.args.dev.now in
    let d1 = g.D.BlockDev.state c.load.new.dev in
    let s = c.in-Ok.stopped in
    let size : d0.size ≡ d1.size = sym c.in-Ok.ensures.unwritten.size in
    let read : IsReadFrom d1.size (now t) s = subst (λ (n : ℕ). IsReadFrom n (now t) s) size (c.in-Ok.ensures.read t shows) in
    subst (λ (n : ℕ). PassesCheck false n (now t)) (sym size)
    (passes_read c.super_spelling.ensures.again d1.size (now t) s read c.in-Ok.ensures.sound.superblock
    (c.in-Ok-check_stopped.ensures.finds t (still_shows d0 d1 t c.in-Ok.ensures.unwritten shows) read))

pub returns-in-Ok-carry-clause-sound : goal.returns-in-Ok-carry-clause-sound
returns-in-Ok-carry-clause-sound g c = λ t shows.
    let d0 = g.D.BlockDev.state c.args.dev.now in
    let d1 = g.D.BlockDev.state c.load.new.dev in
    let s = c.in-Ok.stopped in
    let size : d0.size ≡ d1.size = sym c.in-Ok.ensures.unwritten.size in
    let read : IsReadFrom d1.size (now t) s = subst (λ (n : ℕ). IsReadFrom n (now t) s) size (c.in-Ok.ensures.read t shows) in
    subst (λ (n : ℕ). PassesCheck false n (now t)) (sym size)
    (passes_read c.super_spelling.ensures.again d1.size (now t) s read c.in-Ok.ensures.sound.superblock
    (c.in-Ok-check_stopped.ensures.finds t (still_shows d0 d1 t c.in-Ok.ensures.unwritten shows) read))
