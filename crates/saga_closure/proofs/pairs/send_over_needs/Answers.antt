use Rattle.saga_closure.specs.Nets.{terms_in}
use Rattle.saga_closure.proofs.ApartLemmas.{sides_apart}
use Rattle.saga_closure.proofs.NetLemmas.{own_capacities}
use Rattle.saga_closure.proofs.pairs.send_over_needs.Goals as goal

pub loop-v-init : goal.loop-v-init
loop-v-init c =
    let net = c.args.net.now in
    record {
      far = sides_apart (terms_in net) net.caps.now c.args.progress.now.on.items (own_capacities net.definition.now net.caps.now net.sized net.small) c.requires.one_sided;
      progress = c.requires.progress;
      small = c.requires.small;
    }
