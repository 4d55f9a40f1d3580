pub mod RightSideLaws
