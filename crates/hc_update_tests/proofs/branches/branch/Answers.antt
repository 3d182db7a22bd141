use Rattle.hc_update_tests.proofs.branches.branch.Goals as goal

pub returns-in_err-end-clause-children : goal.returns-in_err-end-clause-children
returns-in_err-end-clause-children c m n p under = c.next-3.ensures.children m n p (c.next-2.ensures.children m n p (c.next.ensures.children m n p under))

pub returns-clause-made : goal.returns-clause-made
returns-clause-made c = record {
  first = c.next-3.ensures.children c.in_ok-begin.begin 1 c.args.root (c.next-2.ensures.children c.in_ok-begin.begin 1 c.args.root c.in_ok-begin.ensures.under);
  middle = c.in_ok-middle.middle;
  last = c.in_ok-end.ensures.under;
  end = c.in_ok-end.ensures.end;
}

pub returns-clause-children : goal.returns-clause-children
returns-clause-children c m n p under = c.next-3.ensures.children m n p (c.next-2.ensures.children m n p (c.next.ensures.children m n p under))
