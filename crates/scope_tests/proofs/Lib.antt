pub mod PushedMembers
