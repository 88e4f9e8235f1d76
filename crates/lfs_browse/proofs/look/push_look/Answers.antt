use Rattle.lfs_browse.proofs.look.push_look.Goals as goal

pub returns-in-Listing : goal.returns-in-Listing
returns-in-Listing g c = rw c.in-Listing.is c.tell_listing.ensures

pub returns-in-Content : goal.returns-in-Content
returns-in-Content g c = rw c.in-Content.is c.tell_content.ensures

pub returns-in-Tree : goal.returns-in-Tree
returns-in-Tree g c = rw c.in-Tree.is c.tell_tree.ensures
