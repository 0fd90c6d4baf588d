-- `comms::cell_sets` meets its contract: each set is that of the active cells whose words pass its test. Assumes nothing.
use Rattle.std.proofs.Common.{rules, not, refl}
use Rattle.rules.specs.State.{is_locked}
use Rattle.rules.specs.Asking.{may_be_messaged}
use Rattle.comms.specs.Sets.{has_locked}
use Rattle.comms.proofs.cell_sets.Goals as goal

pub returns : goal.returns
unfolding may_be_messaged has_locked
returns c =
    let m = c.args.m.now in
    record {
      sets = record {
        messageable = c.active_where-messageable.ensures.value m (λ words. not words.passive) refl refl (λ words r called. search rules);
        locked = c.active_where-locked.ensures.value m (λ words. is_locked words.cell_state) refl refl (λ words r called. search rules);
      };
      size = c.active_where-locked.ensures.size;
    }
