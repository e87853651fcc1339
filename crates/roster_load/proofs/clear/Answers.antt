use Rattle.std.proofs.Common.{rules, ◌≡◌, replicate, length, sym, arith}
use Rattle.std.proofs.lemmas.List.{get_or-replicate}
use Rattle.roster.specs.Laws.Loaded.{cleared}
use Rattle.roster.specs.Roster.{roster_length}
use Rattle.roster_load.proofs.clear.Goals as goal

pub returns : goal.returns
returns c =
    let long : length c.args.roster.now ≡ roster_length = omega arith in
    let zeros : c.fill.new.self ≡ replicate (length c.args.roster.now) 0 = c.fill.ensures.after (λ y e. search rules) in
    cleared {n = roster_length}
    (record {
      below = omega arith;
      long = omega (arith, c.fill.ensures.len);
      copied = λ k b. rw zeros (sym (get_or-replicate (length c.args.roster.now) k 0 0 (omega arith)));
    })
    (omega arith)
