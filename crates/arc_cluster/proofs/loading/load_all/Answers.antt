use Rattle.std.proofs.Common.{◌≡◌, ◌≢◌, None, refl, ◌∙◌, ap, subst, sym, arith}
use Rattle.arc_bytes.specs.Five.{at}
use Rattle.arc_journal.specs.Image.{first_fault}
use Rattle.arc_voting.proofs.Three.{below_five}
use Rattle.arc_cluster.specs.Adopting.{IsLoaded}
use Rattle.arc_cluster.specs.declared.opening.OpenEnd.TheVariants as failed
use Rattle.arc_cluster.proofs.Each.{five_of}
use Rattle.arc_cluster.proofs.Openings.{Read, below_four, below_one, below_three, below_two, read_not}
use Rattle.arc_cluster.proofs.loading.load_all.Goals as goal

pub returns-in-Ok-load_one-4-clause-loaded : goal.returns-in-Ok-load_one-4-clause-loaded
returns-in-Ok-load_one-4-clause-loaded g c =
    let disk = g.D.Disk in
    let five = five_of c.in-Ok.n0 c.in-Ok-load_one.n1 c.in-Ok-load_one-2.n2 c.in-Ok-load_one-3.n3 c.in-Ok-load_one-4.n4 in
    below_five (λ n. IsLoaded disk.tells disk.content disk.may_leave disk.faults (at c.args.disks n) (at five n) n) c.in-Ok.ensures.loaded
    c.in-Ok-load_one.ensures.loaded c.in-Ok-load_one-2.ensures.loaded c.in-Ok-load_one-3.ensures.loaded c.in-Ok-load_one-4.ensures.loaded

pub returns-in-Err-load_one-clause-refused : goal.returns-in-Err-load_one-clause-refused
returns-in-Err-load_one-clause-refused g c =
    let disk = g.D.Disk in
    record {
      node = 1;
      of_five = omega arith;
      passed =
          below_one (λ n. disk.tells → first_fault n (disk.content (at c.args.disks n)) ≡ None)
          c.in-Ok.ensures.loaded.faultless;
      ends = c.in-Err-load_one.ensures.refused;
    }

pub returns-in-Err-load_one-2-clause-refused : goal.returns-in-Err-load_one-2-clause-refused
returns-in-Err-load_one-2-clause-refused g c =
    let disk = g.D.Disk in
    record {
      node = 2;
      of_five = omega arith;
      passed =
          below_two (λ n. disk.tells → first_fault n (disk.content (at c.args.disks n)) ≡ None)
          c.in-Ok.ensures.loaded.faultless c.in-Ok-load_one.ensures.loaded.faultless;
      ends = c.in-Err-load_one-2.ensures.refused;
    }

pub returns-in-Err-load_one-2-clause-read : goal.returns-in-Err-load_one-2-clause-read
returns-in-Err-load_one-2-clause-read g c =
    let disk = g.D.Disk in
    let old = c.args.disks in
    let new = five_of c.give_back-d0-in-Err-load_one-2.result c.give_back-d1.result c.in-Err-load_one-2.d2 old.d3 old.d4 in
    below_five (λ n. Read disk (at old n) (at new n))
    (subst (Read disk old.d0) (sym c.give_back-d0-in-Err-load_one-2.ensures) c.in-Ok.ensures.read)
    (subst (Read disk old.d1) (sym c.give_back-d1.ensures) c.in-Ok-load_one.ensures.read)
    c.in-Err-load_one-2.ensures.read
    (read_not disk g.met.D.Disk.only_now old.d3)
    (read_not disk g.met.D.Disk.only_now old.d4)

pub returns-in-Err-load_one-3-clause-refused : goal.returns-in-Err-load_one-3-clause-refused
returns-in-Err-load_one-3-clause-refused g c =
    let disk = g.D.Disk in
    record {
      node = 3;
      of_five = omega arith;
      passed =
          below_three (λ n. disk.tells → first_fault n (disk.content (at c.args.disks n)) ≡ None)
          c.in-Ok.ensures.loaded.faultless c.in-Ok-load_one.ensures.loaded.faultless c.in-Ok-load_one-2.ensures.loaded.faultless;
      ends = c.in-Err-load_one-3.ensures.refused;
    }

pub returns-in-Err-load_one-3-clause-read : goal.returns-in-Err-load_one-3-clause-read
returns-in-Err-load_one-3-clause-read g c =
    let disk = g.D.Disk in
    let old = c.args.disks in
    let new = five_of c.give_back-d0-in-Err-load_one-3.result c.give_back-d1-in-Err-load_one-3.result c.give_back-d2.result c.in-Err-load_one-3.d3 old.d4 in
    below_five (λ n. Read disk (at old n) (at new n))
    (subst (Read disk old.d0) (sym c.give_back-d0-in-Err-load_one-3.ensures) c.in-Ok.ensures.read)
    (subst (Read disk old.d1) (sym c.give_back-d1-in-Err-load_one-3.ensures) c.in-Ok-load_one.ensures.read)
    (subst (Read disk old.d2) (sym c.give_back-d2.ensures) c.in-Ok-load_one-2.ensures.read)
    c.in-Err-load_one-3.ensures.read
    (read_not disk g.met.D.Disk.only_now old.d4)

pub returns-in-Err-load_one-4-clause-refused : goal.returns-in-Err-load_one-4-clause-refused
returns-in-Err-load_one-4-clause-refused g c =
    let disk = g.D.Disk in
    record {
      node = 4;
      of_five = omega arith;
      passed =
          below_four (λ n. disk.tells → first_fault n (disk.content (at c.args.disks n)) ≡ None)
          c.in-Ok.ensures.loaded.faultless c.in-Ok-load_one.ensures.loaded.faultless c.in-Ok-load_one-2.ensures.loaded.faultless c.in-Ok-load_one-3.ensures.loaded.faultless;
      ends = c.in-Err-load_one-4.ensures.refused;
    }

pub returns-in-Err-clause-named : goal.returns-in-Err-clause-named
returns-in-Err-clause-named g c =
    let faults = g.D.Disk.faults in
    let old = c.args.disks in
    let new = five_of c.in-Err.d0 old.d1 old.d2 old.d3 old.d4 in
    below_five (λ n. c.in-Err.end ≢ failed.Disk n → faults (at new n) ≡ faults (at old n))
    c.in-Err.ensures.named
    (λ other. refl)
    (λ other. refl)
    (λ other. refl)
    (λ other. refl)

pub returns-in-Err-load_one-clause-named : goal.returns-in-Err-load_one-clause-named
returns-in-Err-load_one-clause-named g c =
    let faults = g.D.Disk.faults in
    let old = c.args.disks in
    let new = five_of c.give_back-d0.result c.in-Err-load_one.d1 old.d2 old.d3 old.d4 in
    below_five (λ n. c.in-Err-load_one.end ≢ failed.Disk n → faults (at new n) ≡ faults (at old n))
    (λ other. ap faults c.give_back-d0.ensures ∙ c.in-Ok.ensures.loaded.no_fault)
    c.in-Err-load_one.ensures.named
    (λ other. refl)
    (λ other. refl)
    (λ other. refl)

pub returns-in-Err-load_one-2-clause-named : goal.returns-in-Err-load_one-2-clause-named
returns-in-Err-load_one-2-clause-named g c =
    let faults = g.D.Disk.faults in
    let old = c.args.disks in
    let new = five_of c.give_back-d0-in-Err-load_one-2.result c.give_back-d1.result c.in-Err-load_one-2.d2 old.d3 old.d4 in
    below_five (λ n. c.in-Err-load_one-2.end ≢ failed.Disk n → faults (at new n) ≡ faults (at old n))
    (λ other. ap faults c.give_back-d0-in-Err-load_one-2.ensures ∙ c.in-Ok.ensures.loaded.no_fault)
    (λ other. ap faults c.give_back-d1.ensures ∙ c.in-Ok-load_one.ensures.loaded.no_fault)
    c.in-Err-load_one-2.ensures.named
    (λ other. refl)
    (λ other. refl)

pub returns-in-Err-load_one-3-clause-named : goal.returns-in-Err-load_one-3-clause-named
returns-in-Err-load_one-3-clause-named g c =
    let faults = g.D.Disk.faults in
    let old = c.args.disks in
    let new = five_of c.give_back-d0-in-Err-load_one-3.result c.give_back-d1-in-Err-load_one-3.result c.give_back-d2.result c.in-Err-load_one-3.d3 old.d4 in
    below_five (λ n. c.in-Err-load_one-3.end ≢ failed.Disk n → faults (at new n) ≡ faults (at old n))
    (λ other. ap faults c.give_back-d0-in-Err-load_one-3.ensures ∙ c.in-Ok.ensures.loaded.no_fault)
    (λ other. ap faults c.give_back-d1-in-Err-load_one-3.ensures ∙ c.in-Ok-load_one.ensures.loaded.no_fault)
    (λ other. ap faults c.give_back-d2.ensures ∙ c.in-Ok-load_one-2.ensures.loaded.no_fault)
    c.in-Err-load_one-3.ensures.named
    (λ other. refl)

pub returns-in-Err-load_one-4-clause-named : goal.returns-in-Err-load_one-4-clause-named
returns-in-Err-load_one-4-clause-named g c =
    let faults = g.D.Disk.faults in
    let old = c.args.disks in
    let new = five_of c.give_back-d0-in-Err-load_one-4.result c.give_back-d1-in-Err-load_one-4.result c.give_back-d2-in-Err-load_one-4.result c.give_back-d3.result c.in-Err-load_one-4.d4 in
    below_five (λ n. c.in-Err-load_one-4.end ≢ failed.Disk n → faults (at new n) ≡ faults (at old n))
    (λ other. ap faults c.give_back-d0-in-Err-load_one-4.ensures ∙ c.in-Ok.ensures.loaded.no_fault)
    (λ other. ap faults c.give_back-d1-in-Err-load_one-4.ensures ∙ c.in-Ok-load_one.ensures.loaded.no_fault)
    (λ other. ap faults c.give_back-d2-in-Err-load_one-4.ensures ∙ c.in-Ok-load_one-2.ensures.loaded.no_fault)
    (λ other. ap faults c.give_back-d3.ensures ∙ c.in-Ok-load_one-3.ensures.loaded.no_fault)
    c.in-Err-load_one-4.ensures.named
