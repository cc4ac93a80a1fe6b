use Rattle.vx_calls.proofs.Keeping.{used_still}
use Rattle.vx_calls.proofs.mount.Mount.reach.Goals as goal

pub advance-requires-clause-used : goal.advance-requires-clause-used
advance-requires-clause-used g c =
    let m = c.args.self.now in
    record {
      opening = c.requires.used.opening;
      at = c.begin_commit.ensures.at c.requires.used.opening c.requires.used.at;
      in_use = used_still c.requires.used.opening m.kernel c.begin_commit.new.self.kernel c.begin_commit.ensures.history c.requires.used.in_use;
    }

pub returns-in_err-advance-clause-at : goal.returns-in_err-advance-clause-at
returns-in_err-advance-clause-at g c = λ o at used. c.advance.ensures.at o (c.begin_commit.ensures.at o at) (used_still o c.args.self.now.kernel c.begin_commit.new.self.kernel c.begin_commit.ensures.history used)

pub returns-clause-at : goal.returns-clause-at
returns-clause-at g c = λ o at used. c.advance.ensures.at o (c.begin_commit.ensures.at o at) (used_still o c.args.self.now.kernel c.begin_commit.new.self.kernel c.begin_commit.ensures.history used)
