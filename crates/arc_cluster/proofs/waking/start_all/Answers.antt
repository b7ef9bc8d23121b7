use Rattle.arc_cluster.proofs.Wakings.{loaded_in_order}
use Rattle.arc_cluster.proofs.waking.start_all.Goals as goal

pub wake_all-requires-clause-in_order : goal.wake_all-requires-clause-in_order
wake_all-requires-clause-in_order g c =
    let disk = g.D.Disk in
    loaded_in_order disk.tells disk.content disk.may_leave c.args.nodes.now c.requires.each c.requires.asleep c.requires.numbered
    c.in_ok-check_lengths.ensures.alike c.in_ok-check_sound.ensures.sound
